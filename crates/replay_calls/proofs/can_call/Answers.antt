-- Each arm: its number, the bytes and the items that it takes, and what its call ensures.
use Rattle.std.proofs.Common.{refl, rules}
use Rattle.definition.specs.Gate.{on_core, approve_can_read_write}
use Rattle.replay_items.specs.Bytes.{lent_bytes}
use Rattle.replay_calls.specs.Calls.{can_calls, can_call}
use Rattle.replay_calls.proofs.Laws.{else_first}
use Rattle.replay_calls.proofs.can_call.Goals as goal

pub returns-in-1 : goal.returns-in-1
unfolding lent_bytes can_call can_calls
returns-in-1 c = rw c.in-1.is c.revoke_can_read_write_approval.ensures

pub returns-in-2 : goal.returns-in-2
unfolding lent_bytes can_call can_calls
returns-in-2 c = rw (c.in-2.is, ← c.unwrap_or.ensures) c.restore_can_read_write_approval.ensures

pub returns-in-3 : goal.returns-in-3
unfolding lent_bytes can_call can_calls
returns-in-3 c = rw (c.in-3.is, ← c.unwrap_or-in-3.ensures) c.set_can_dev_write_unlocked.ensures

pub returns-in-4 : goal.returns-in-4
unfolding lent_bytes can_call can_calls
returns-in-4 c = rw c.in-4.is c.declare_production_build.ensures

pub returns-in-5 : goal.returns-in-5
unfolding lent_bytes can_call can_calls
returns-in-5 c = rw c.in-5.is c.confirm_car_identity.ensures

pub returns-in-6 : goal.returns-in-6
unfolding lent_bytes can_call can_calls
returns-in-6 c = rw c.in-6.is c.revoke_car_identity.ensures

pub returns-in-7 : goal.returns-in-7
unfolding lent_bytes can_call can_calls
returns-in-7 c = rw (c.in-7.is, ← c.lent-print.ensures) c.confirm_car_fingerprint.ensures

pub returns-in-8 : goal.returns-in-8
unfolding lent_bytes can_call can_calls
returns-in-8 c = rw (c.in-8.is, ← c.unwrap_or-in-8.ensures) c.set_can_read_only.ensures

pub returns-in-9 : goal.returns-in-9
unfolding lent_bytes can_call can_calls
returns-in-9 c = rw (c.in-9.is, ← c.unwrap_or-bus.ensures, ← c.unwrap_or-at.ensures, ← c.unwrap_or-list.ensures) c.open_identity_probe.ensures

pub returns-in-10 : goal.returns-in-10
unfolding lent_bytes can_call can_calls
returns-in-10 c = rw c.in-10.is c.close_identity_probe.ensures

pub returns-in-11 : goal.returns-in-11
unfolding lent_bytes can_call can_calls
returns-in-11 c = rw (c.in-11.is, ← c.lent-owner.ensures, ← c.unwrap_or-bus.ensures, ← c.unwrap_or-at.ensures, ← c.unwrap_or-frame.ensures, ← c.unwrap_or-class.ensures) c.allow_can_tx.ensures

pub returns-in-12 : goal.returns-in-12
unfolding lent_bytes can_call can_calls
returns-in-12 c = rw (c.in-12.is, ← c.unwrap_or-bus.ensures, ← c.unwrap_or-at.ensures) c.heard_can_frame.ensures

pub returns-in-13 : goal.returns-in-13
unfolding lent_bytes can_call can_calls
returns-in-13 c = rw (c.in-13.is, ← c.unwrap_or-in-13.ensures) c.note_platform_id.ensures

pub returns-in-14 : goal.returns-in-14
unfolding lent_bytes can_call can_calls
returns-in-14 c = rw (c.in-14.is, ← c.unwrap_or-on.ensures) c.note_can_logging.ensures

pub returns-in-15 : goal.returns-in-15
unfolding lent_bytes can_call can_calls
returns-in-15 c = rw (c.in-15.is, ← c.unwrap_or-bus.ensures, ← c.unwrap_or-on.ensures) c.note_can_fd_bus.ensures

pub returns-in-16 : goal.returns-in-16
unfolding lent_bytes can_call can_calls
returns-in-16 c = rw (c.in-16.is, ← c.unwrap_or-place.ensures, ← c.unwrap_or-on.ensures) c.note_method_available.ensures

pub returns-in-17 : goal.returns-in-17
unfolding lent_bytes can_call can_calls
returns-in-17 c = rw (c.in-17.is, ← c.unwrap_or-place.ensures, ← c.unwrap_or-on.ensures) c.note_method_can_continue.ensures

pub returns-in_default : goal.returns-in_default
unfolding lent_bytes can_call can_calls
returns-in_default c = let a = c.args in rw (else_first (can_calls a.i (lent_bytes a.p a.room.now)) (on_core approve_can_read_write) a.name refl (search rules)) c.approve_can_read_write.ensures
