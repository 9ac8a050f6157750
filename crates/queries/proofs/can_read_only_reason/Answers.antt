use Rattle.answers.specs.Answers.{if_in_range}
use Rattle.state.specs.View.{view}
use Rattle.answers.specs.Query.{can_read_only_reason, answer_to}
use Rattle.definition.proofs.Asked.{by_query}
use Rattle.queries.proofs.can_read_only_reason.Goals as goal

pub returns-then-in_range : goal.returns-then-in_range
unfolding answer_to view if_in_range
returns-then-in_range c = let a = c.args in by_query a.g can_read_only_reason _ (rw (c.can_read_only_reason.ensures, ← c.in_range.ensures, c.if-in_range.true))

pub returns-else-in_range : goal.returns-else-in_range
unfolding answer_to view if_in_range
returns-else-in_range c = let a = c.args in by_query a.g can_read_only_reason _ (rw (← c.in_range.ensures, c.if-in_range.false))
