use Rattle.answers.specs.Answers as Answers
use Rattle.queries.proofs.answer_yes_no.Goals as goal

pub returns-then-in_range : goal.returns-then-in_range
unfolding Answers.if_in_range
returns-then-in_range c = rw (c.yes_no.ensures, ← c.in_range.ensures, c.if-in_range.true)

pub returns-else-in_range : goal.returns-else-in_range
unfolding Answers.if_in_range
returns-else-in_range c = rw (← c.in_range.ensures, c.if-in_range.false)
