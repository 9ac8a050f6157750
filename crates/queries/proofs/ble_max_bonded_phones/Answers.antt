use Rattle.answers.specs.Answers.{if_in_range}
use Rattle.state.specs.View.{view}
use Rattle.answers.specs.Query.{ble_max_bonded_phones, answer_to}
use Rattle.definition.proofs.Asked.{by_query}
use Rattle.queries.proofs.ble_max_bonded_phones.Goals as goal

pub returns-then-in_range : goal.returns-then-in_range
unfolding answer_to view if_in_range
returns-then-in_range c = let a = c.args in by_query a.g ble_max_bonded_phones _ (rw (← c.in_range.ensures, c.if-in_range.true))

pub returns-else-in_range : goal.returns-else-in_range
unfolding answer_to view if_in_range
returns-else-in_range c = let a = c.args in by_query a.g ble_max_bonded_phones _ (rw (← c.in_range.ensures, c.if-in_range.false))
