use Rattle.answers.specs.Answers.{trust_answer}
use Rattle.state.specs.View.{view}
use Rattle.answers.specs.Query.{phone_trust_level, answer_to}
use Rattle.definition.proofs.Asked.{by_query}
use Rattle.queries.proofs.phone_trust_level.Goals as goal

pub returns-then-in_range : goal.returns-then-in_range
unfolding answer_to view trust_answer
returns-then-in_range c = let a = c.args in by_query a.g (phone_trust_level a.id.now) _ (rw (c.phone_trust_level.ensures, ← c.in_range.ensures, c.if-in_range.true))

pub returns-else-in_range : goal.returns-else-in_range
unfolding answer_to view trust_answer
returns-else-in_range c = let a = c.args in by_query a.g (phone_trust_level a.id.now) _ (rw (← c.in_range.ensures, c.if-in_range.false))
