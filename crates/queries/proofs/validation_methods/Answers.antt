use Rattle.answers.specs.Answers.{methods_answer}
use Rattle.state.specs.View.{view}
use Rattle.answers.specs.Query.{validation_methods, answer_to}
use Rattle.definition.proofs.Asked.{by_query}
use Rattle.queries.proofs.validation_methods.Goals as goal

pub returns-then-in_range : goal.returns-then-in_range
unfolding answer_to view methods_answer
returns-then-in_range c = let a = c.args in by_query a.g validation_methods _ (rw (c.methods_of.ensures, ← c.in_range.ensures, c.if-in_range.true))

pub returns-else-in_range : goal.returns-else-in_range
unfolding answer_to view methods_answer
returns-else-in_range c = let a = c.args in by_query a.g validation_methods _ (rw (c.no_methods.ensures, ← c.in_range.ensures, c.if-in_range.false))
