use Rattle.phones.proofs.Made.{made_fits, made_long, made_id_lem}
use Rattle.state.specs.Checks.{checked}
use Rattle.can_queue.specs.Steps.{looked}
use Rattle.can_queue.proofs.look_at.Goals as goal

pub returns-then-not-can_id_in_range : goal.returns-then-not-can_id_in_range
unfolding looked checked
returns-then-not-can_id_in_range c = rw (← c.if-not-can_id_in_range.ensures)

pub returns-in-None : goal.returns-in-None
unfolding looked checked
returns-in-None c = rw (← c.if-not-can_id_in_range.ensures, made_long _ c.in-None.ensures)

pub returns-in-Some : goal.returns-in-Some
unfolding looked checked
returns-in-Some c =
    rw (← c.if-not-can_id_in_range.ensures, made_fits _ _ c.in-Some.ensures, ← c.if-bus_exists.ensures, made_id_lem _ _ c.in-Some.ensures)

pub returns-in-Some-2 : goal.returns-in-Some-2
unfolding looked checked
returns-in-Some-2 c = rw (← c.if-not-can_id_in_range.ensures, made_fits _ _ c.in-Some-2.ensures, ← c.if-bus_exists.ensures)
