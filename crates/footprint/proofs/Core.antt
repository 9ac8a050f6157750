-- What a call on the core leaves of it: one line for each call.
use mathlib.Core.Path.{◌≡◌, refl, ◌∙◌}
use mathlib.Core.Bool.{Bool, true, false}
use mathlib.Core.List.{List, [], ◌∷◌, map}
use Prim.Native.Nat.{ℕ, ◌≤◌}
use native.Mathlib.Omega.{arith}
use borrow.Author.Tests.{ne_eqb}
use Rattle.phones.specs.Ids.{some_of}
use Rattle.frames.specs.declared.CanFrame.{CanFrame}
use Rattle.frames.specs.declared.TxClass.{TxClass}
use Rattle.frames.specs.declared.TxClass.TheVariants.{Platform, Command}
use Rattle.state.specs.declared.Core.{Core}
use Rattle.state.specs.declared.Mark.TheVariants.{Blank, Kept}
use Rattle.state.specs.declared.Said.{Said}
use Rattle.state.specs.Replies.{notified}
use Rattle.state.specs.View.{Lists}
use Rattle.can_access.specs.Approval as Access
use Rattle.dev_lock.specs.DevLock as DevLock
use Rattle.policy_changes.specs.Changes as Changes
use Rattle.car_identity.specs.CarIdentity as CarIdentity
use Rattle.can.specs.Can as Can
use Rattle.pairing.specs.Pairing as Pairing
use Rattle.std.specs.Prelude.{Option, Some, None}
use Rattle.can_probe.specs.Calls as Probe
use Rattle.can_tx.specs.Tx as Tx
use Rattle.methods.specs.Notes as Methods
use Rattle.definition.specs.Gate as Gate
use Rattle.definition.specs.Gate.{CoreCall, said}
use Rattle.footprint.specs.Footprint.{CorePart, notes, policy, peer, probe, Part, settings, methods, validation, code, in_core, core_touches, place, is_in}
use Rattle.footprint.proofs.Keeps.{Keeps, keeping}

-- ---- every call on the core

keeps_passed : (c : Core) (u : Option ℕ) → Keeps (in_core probe ∷ []) c (Tx.passed c u)
unfolding some_of
keeps_passed c None = search keeping
keeps_passed c (Some i) = search keeping

keeps_class : (c : Core) (bus : ℕ) (frame : CanFrame) (validated : Bool) (clock : ℕ) (class : TxClass)
    → Keeps (in_core probe ∷ []) c (Tx.allow_class c bus frame validated clock class)
unfolding Tx.allow_platform Tx.through_window
keeps_class c bus frame validated clock Platform = search (keeping, keeps_passed)
keeps_class c bus frame validated clock Command = search keeping

pub allow_keeps : (c : Core) (bus : ℕ) (frame : CanFrame) (class : TxClass) (validated : Bool) (clock : ℕ) → Keeps (in_core probe ∷ []) c (Tx.allow c bus frame class validated clock)
unfolding Tx.allow
allow_keeps c bus frame class validated clock = search (keeping, keeps_class)

keeps_locked : (c : Core) (enabled : Bool) → Keeps (in_core policy ∷ in_core probe ∷ []) c (Can.set_read_only c enabled)
unfolding Can.set_read_only Changes.policy_changed some_of
keeps_locked c true = search keeping
keeps_locked c false = search keeping

pub core_keeps : (c : Core) (l : Lists) (k : CoreCall) → Keeps (map in_core (core_touches k)) c (said c l k)
unfolding said some_of notified Pairing.set_peer Access.approve Access.revoke_approval Access.restore_approval DevLock.set_dev_unlocked DevLock.declare_production CarIdentity.confirm_platform CarIdentity.revoke_platform CarIdentity.confirm_fingerprint CarIdentity.note_platform Can.note_logging Can.note_fd_bus Changes.policy_changed Probe.open_probe Probe.close_probe Probe.window_changed Probe.heard Methods.note_available Methods.note_continue
core_keeps c l (Gate.set_ble_peer id) = search keeping
core_keeps c l Gate.approve_can_read_write = search keeping
core_keeps c l Gate.revoke_can_read_write_approval = search keeping
core_keeps c l (Gate.restore_can_read_write_approval approval) = search keeping
core_keeps c l (Gate.set_can_dev_write_unlocked unlocked) = search keeping
core_keeps c l Gate.declare_production_build = search keeping
core_keeps c l Gate.confirm_car_identity = search keeping
core_keeps c l Gate.revoke_car_identity = search keeping
core_keeps c l (Gate.confirm_car_fingerprint fingerprint) = search keeping
core_keeps c l (Gate.set_can_read_only enabled) = search keeps_locked
core_keeps c l (Gate.open_identity_probe bus frames count clock) = search keeping
core_keeps c l Gate.close_identity_probe = search keeping
core_keeps c l (Gate.allow_can_tx bus frame class owner clock) = search allow_keeps
core_keeps c l (Gate.heard_can_frame bus clock) = search keeping
core_keeps c l (Gate.note_platform_id number) = search keeping
core_keeps c l (Gate.note_can_logging on) = search keeping
core_keeps c l (Gate.note_can_fd_bus bus on) = search keeping
core_keeps c l (Gate.note_method_available place on) = search keeping
core_keeps c l (Gate.note_method_can_continue place on) = search keeping

-- ---- what none of them touches

past_seven : (p : CorePart) → 8 ≤ place (in_core p)
past_seven notes = omega arith
past_seven policy = omega arith
past_seven peer = omega arith
past_seven probe = omega arith

-- a part that is none of a core's own is in none of their rows
outside : (p : Part) → place p ≤ 7 → (qs : List CorePart) → is_in p (map in_core qs) ≡ false
unfolding some_of
outside p h [] = refl
outside p h (q ∷ qs) = let far = past_seven q in rw (ne_eqb (place (in_core q)) (place p) (omega arith)) (outside p h qs)

pub record Beside (c : Core) (o : Said) : Type 0 where
  pub settings : o.core.settings ≡ c.settings
  pub methods : o.core.methods.list ≡ c.methods.list
  pub count : o.core.methods.count ≡ c.methods.count
  pub validation : o.core.validation ≡ c.validation
  pub shows : o.shows ≡ Blank
  pub code : o.code ≡ Kept

-- an operation whose row has none of these
pub beside : (ps : List Part) (c : Core) (o : Said) → Keeps ps c o → is_in settings ps ≡ false → is_in methods ps ≡ false → is_in validation ps ≡ false → is_in code ps ≡ false
    → Beside c o
beside ps c o h s m v d = record {
  settings = (λ i. (h.core i).settings) ∙ rw s;
  methods = (λ i. (h.core i).methods.list) ∙ rw m;
  count = (λ i. (h.core i).methods.count) ∙ rw m;
  validation = (λ i. (h.core i).validation) ∙ rw v;
  shows = h.shows ∙ rw d;
  code = h.code ∙ rw d;
}

pub core_beside : (c : Core) (l : Lists) (k : CoreCall) → Beside c (said c l k)
core_beside c l k =
    let qs = core_touches k in
    beside (map in_core qs) c (said c l k) (core_keeps c l k)
    (outside settings (omega arith) qs) (outside methods (omega arith) qs) (outside validation (omega arith) qs) (outside code (omega arith) qs)
