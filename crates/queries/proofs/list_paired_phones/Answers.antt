use Rattle.state.specs.View.{view}
use Rattle.answers.specs.Query.{list_paired_phones, answer_to}
use Rattle.definition.proofs.Asked.{by_query}
use Rattle.queries.proofs.list_paired_phones.Goals as goal

pub returns-then-in_range : goal.returns-then-in_range
unfolding answer_to view
returns-then-in_range c = let a = c.args in by_query a.g list_paired_phones _ (rw (c.canonical.ensures, ← c.in_range.ensures, c.if-in_range.true))

pub returns-else-in_range : goal.returns-else-in_range
unfolding answer_to view
returns-else-in_range c = let a = c.args in by_query a.g list_paired_phones _ (rw (c.empty_list.ensures, ← c.in_range.ensures, c.if-in_range.false))
