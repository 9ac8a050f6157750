use Rattle.can_turns.specs.Turns.{owner_validated}
use Rattle.phones.specs.Phones.{id_in_range}
use Rattle.can_turns.proofs.owner_validated.Goals as goal

pub returns-then-id_in_range : goal.returns-then-id_in_range
unfolding owner_validated id_in_range
returns-then-id_in_range c = rw (← c.if-id_in_range.ensures, ← c.used.ensures.value) c.is_phone_validated.ensures

pub returns-else-id_in_range : goal.returns-else-id_in_range
unfolding owner_validated id_in_range
returns-else-id_in_range c = rw (← c.if-id_in_range.ensures) c.if-id_in_range.false
