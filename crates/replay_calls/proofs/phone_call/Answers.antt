-- Each arm: its number, the bytes and the items that it takes, and what its call ensures.
use Rattle.std.proofs.Common.{◌≡◌, refl, rules, replicate, unwrap_or}
use Rattle.replay_items.specs.Bytes.{lent_bytes}
use Rattle.replay_items.specs.Values.{no_settings}
use Rattle.replay_lists.specs.Lists.{no_method}
use Rattle.replay_calls.specs.Calls.{new_call, phone_calls, phone_call}
use Rattle.replay_calls.proofs.Laws.{else_first}
use Rattle.replay_calls.proofs.phone_call.Goals as goal

pub returns-in-1 : goal.returns-in-1
unfolding lent_bytes phone_call phone_calls
returns-in-1 c = rw (c.in-1.is, ← c.lent-phone.ensures, ← c.lent-method.ensures, ← c.lent-random.ensures, ← c.unwrap_or-at.ensures) c.start_validation.ensures

pub returns-in-2 : goal.returns-in-2
unfolding lent_bytes phone_call phone_calls
returns-in-2 c = rw (c.in-2.is, ← c.lent-phone.ensures, ← c.lent-typed.ensures, ← c.unwrap_or-at.ensures) c.submit_validation_code.ensures

pub returns-in-3 : goal.returns-in-3
unfolding lent_bytes phone_call phone_calls
returns-in-3 c = rw (c.in-3.is, ← c.lent-phone.ensures, ← c.unwrap_or-at.ensures) c.cancel_validation.ensures

pub returns-in-4 : goal.returns-in-4
unfolding lent_bytes phone_call phone_calls
returns-in-4 c = rw (c.in-4.is, ← c.unwrap_or-at.ensures, ← c.unwrap_or.ensures) c.complete_validation_action_at.ensures

pub returns-in-5 : goal.returns-in-5
unfolding lent_bytes phone_call phone_calls
returns-in-5 c = rw (c.in-5.is, ← c.unwrap_or-at.ensures) c.tick_validation.ensures

pub returns-in-6 : goal.returns-in-6
unfolding lent_bytes phone_call phone_calls
returns-in-6 c = rw (c.in-6.is, ← c.lent-phone.ensures) c.add_paired_phone.ensures

pub returns-in-7 : goal.returns-in-7
unfolding lent_bytes phone_call phone_calls
returns-in-7 c = rw (c.in-7.is, ← c.lent-phone.ensures) c.remove_paired_phone.ensures

pub returns-in-8 : goal.returns-in-8
unfolding lent_bytes phone_call phone_calls
returns-in-8 c = rw c.in-8.is c.clear_paired_phones.ensures

pub returns-in-9 : goal.returns-in-9
unfolding lent_bytes phone_call phone_calls
returns-in-9 c = rw (c.in-9.is, ← c.lent-phone.ensures) c.forget_phone_validation.ensures

pub returns-in-10 : goal.returns-in-10
unfolding lent_bytes phone_call phone_calls
returns-in-10 c = rw c.in-10.is c.prune_phone_validations.ensures

pub returns-in-11 : goal.returns-in-11
unfolding lent_bytes phone_call phone_calls
returns-in-11 c = rw (c.in-11.is, ← c.lent-stored.ensures) c.restore_phone_validations.ensures

pub returns-in-12 : goal.returns-in-12
unfolding lent_bytes phone_call phone_calls
returns-in-12 c = rw c.in-12.is c.open_phone_validations_save.ensures

pub returns-in-13 : goal.returns-in-13
unfolding lent_bytes phone_call phone_calls
returns-in-13 c = rw (c.in-13.is, ← c.lent-phone.ensures) c.set_ble_peer.ensures

pub returns-in_default : goal.returns-in_default
unfolding lent_bytes phone_call phone_calls
returns-in_default c =
    let a = c.args in
    let s : c.unwrap_or-settings.result ≡ unwrap_or a.i.settings no_settings = c.unwrap_or-settings.ensures in
    let l : c.unwrap_or-list.result ≡ unwrap_or a.i.methods.list (replicate 8 no_method) = c.unwrap_or-list.ensures in
    rw (else_first (phone_calls a.i (lent_bytes a.p a.room.now)) (new_call a.i) a.name refl (search rules), ← s, ← l) (c.new_gate.ensures a.g)
