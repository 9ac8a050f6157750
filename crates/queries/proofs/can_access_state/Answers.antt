use Rattle.answers.specs.Answers.{access_answer}
use Rattle.state.specs.View.{view}
use Rattle.answers.specs.Query.{can_access_state, answer_to}
use Rattle.definition.proofs.Asked.{by_query}
use Rattle.queries.proofs.can_access_state.Goals as goal

pub returns-then-in_range : goal.returns-then-in_range
unfolding answer_to view access_answer
returns-then-in_range c = let a = c.args in by_query a.g can_access_state _ (rw (c.access_of.ensures, ← c.in_range.ensures, c.if-in_range.true))

pub returns-else-in_range : goal.returns-else-in_range
unfolding answer_to view access_answer
returns-else-in_range c = let a = c.args in by_query a.g can_access_state _ (rw (c.no_access_state.ensures, ← c.in_range.ensures, c.if-in_range.false))
