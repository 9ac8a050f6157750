use Rattle.answers.specs.Answers.{challenge_answer}
use Rattle.state.specs.View.{view}
use Rattle.answers.specs.Query.{current_validation_challenge, answer_to}
use Rattle.definition.proofs.Asked.{by_query}
use Rattle.queries.proofs.current_validation_challenge.Goals as goal

pub returns-then-in_range : goal.returns-then-in_range
unfolding answer_to view challenge_answer
returns-then-in_range c = let a = c.args in by_query a.g current_validation_challenge _ (rw (c.challenge_now.ensures, ← c.in_range.ensures, c.if-in_range.true))

pub returns-else-in_range : goal.returns-else-in_range
unfolding answer_to view challenge_answer
returns-else-in_range c = let a = c.args in by_query a.g current_validation_challenge _ (rw (c.no_challenge.ensures, ← c.in_range.ensures, c.if-in_range.false))
