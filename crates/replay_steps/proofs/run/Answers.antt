-- By the kind of line that the number is of, and what is made of it.
use Rattle.replay_calls.proofs.Laws.{line_phone, line_can, line_asking}
use Rattle.replay_items.specs.Bytes.{lent_bytes}
use Rattle.replay_given.specs.Turns.{ran}
use Rattle.replay_steps.proofs.run.Goals as goal

pub returns-then-name-lt-PHONE_CALLS : goal.returns-then-name-lt-PHONE_CALLS
unfolding ran
returns-then-name-lt-PHONE_CALLS c = let a = c.args in rw (line_phone a.i (lent_bytes a.p a.room.now) a.name c.if-name-lt-PHONE_CALLS.true, ← c.phone_call-o.ensures) c.put_outcome.ensures

pub returns-then-can-lt-CAN_CALLS : goal.returns-then-can-lt-CAN_CALLS
unfolding ran
returns-then-can-lt-CAN_CALLS c = let a = c.args in rw (line_can a.i (lent_bytes a.p a.room.now) a.name c.if-name-lt-PHONE_CALLS.false c.if-can-lt-CAN_CALLS.true, ← c.can_call-o.ensures) c.put_outcome-then-can-lt-CAN_CALLS.ensures

pub run_asking-requires : goal.run_asking-requires
unfolding ran
run_asking-requires c = c.requires

pub returns : goal.returns
unfolding ran
returns c = let a = c.args in rw (line_asking a.i (lent_bytes a.p a.room.now) a.name c.if-name-lt-PHONE_CALLS.false c.if-can-lt-CAN_CALLS.false) c.run_asking.ensures
