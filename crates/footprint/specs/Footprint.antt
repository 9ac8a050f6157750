-- Which parts of the gate each call may touch: a table with one row for each call. `Footprint`, at the end, is the claim: a part that
-- is not in a call's row is equal afterwards, on any gate, also one that gets 25.
use Rattle.std.specs.Prelude.{ℕ, ◌≡◌, Bool, false, List, [], ◌∷◌, map, eqb}
use Rattle.phones.specs.Ids.{some_of}
use Rattle.state.specs.declared.Gate.{Gate}
use Rattle.definition.specs.Gate.{SessionCall, cancel_validation, complete_validation_action, tick_validation, ListCall, add_paired_phone, remove_paired_phone, clear_paired_phones, forget_phone_validation, prune_phone_validations, restore_phone_validations, SaveCall, open_phone_validations_save, take_phone_validations_save, QueueCall, send_can_frame, serve_can_frames, CoreCall, set_ble_peer, approve_can_read_write, revoke_can_read_write_approval, restore_can_read_write_approval, set_can_dev_write_unlocked, declare_production_build, confirm_car_identity, revoke_car_identity, confirm_car_fingerprint, set_can_read_only, open_identity_probe, close_identity_probe, allow_can_tx, heard_can_frame, note_platform_id, note_can_logging, note_can_fd_bus, note_method_available, note_method_can_continue, Call, new_gate_call, start_validation, submit_validation_code, on_session, on_lists, on_save, on_queue, on_core, ask, after}

-- ---- the parts

-- what a call on the core may touch: what the host noted of the methods, but not the methods, nor the settings, nor a session
pub data CorePart : Type 0 where
  notes policy peer probe : CorePart

-- both lists and the save as they lie in memory, past their counts and its length too; of the waiting frames what the gate keeps
pub data Part : Type 0 where
  settings methods validation paired store save queue code : Part
  in_core : CorePart → Part

-- ---- the table

abbrev pub session_touches : SessionCall → List Part
session_touches (cancel_validation phone clock) = validation ∷ code ∷ []
session_touches (complete_validation_action session clock) = validation ∷ store ∷ code ∷ []
session_touches (tick_validation clock) = validation ∷ code ∷ []

abbrev pub list_touches : ListCall → List Part
list_touches (add_paired_phone id) = paired ∷ []
list_touches (remove_paired_phone id) = paired ∷ store ∷ []
list_touches clear_paired_phones = paired ∷ store ∷ []
list_touches (forget_phone_validation id) = store ∷ []
list_touches prune_phone_validations = store ∷ []
list_touches (restore_phone_validations bytes) = store ∷ []

abbrev pub save_touches : SaveCall → List Part
save_touches open_phone_validations_save = save ∷ []
save_touches (take_phone_validations_save out) = save ∷ []

abbrev pub queue_touches : QueueCall → List Part
queue_touches (send_can_frame list frame class owner) = queue ∷ []
queue_touches (serve_can_frames list turns clock) = queue ∷ in_core probe ∷ []

abbrev pub core_touches : CoreCall → List CorePart
core_touches (set_ble_peer id) = peer ∷ []
core_touches approve_can_read_write = policy ∷ []
core_touches revoke_can_read_write_approval = policy ∷ []
core_touches (restore_can_read_write_approval approval) = policy ∷ []
core_touches (set_can_dev_write_unlocked unlocked) = policy ∷ []
core_touches declare_production_build = policy ∷ []
core_touches confirm_car_identity = policy ∷ []
core_touches revoke_car_identity = policy ∷ probe ∷ []
core_touches (confirm_car_fingerprint fingerprint) = policy ∷ []
core_touches (set_can_read_only enabled) = policy ∷ probe ∷ []
core_touches (open_identity_probe bus frames count clock) = probe ∷ []
core_touches close_identity_probe = probe ∷ []
core_touches (allow_can_tx bus frame class owner clock) = probe ∷ []
core_touches (heard_can_frame bus clock) = probe ∷ []
core_touches (note_platform_id number) = policy ∷ []
core_touches (note_can_logging on) = policy ∷ []
core_touches (note_can_fd_bus bus on) = policy ∷ []
core_touches (note_method_available place on) = notes ∷ []
core_touches (note_method_can_continue place on) = notes ∷ []

abbrev pub touches : Call → List Part
touches (new_gate_call settings' methods' count) =
    settings ∷ methods ∷ validation ∷ paired ∷ store ∷ save ∷ queue ∷ code ∷ in_core notes ∷ in_core policy ∷ in_core peer ∷ in_core probe ∷ []
touches (start_validation phone method clock random) = validation ∷ code ∷ []
touches (submit_validation_code phone typed clock) = validation ∷ store ∷ code ∷ []
touches (on_session k) = session_touches k
touches (on_lists k) = list_touches k
touches (on_save k) = save_touches k
touches (on_queue k) = queue_touches k
touches (on_core k) = map in_core (core_touches k)
touches (ask q) = []

-- ---- the claim

-- a number for each, to tell them apart
abbrev pub place : Part → ℕ
place settings = 0
place methods = 1
place validation = 2
place paired = 3
place store = 4
place save = 5
place queue = 6
place code = 7
place (in_core notes) = 8
place (in_core policy) = 9
place (in_core peer) = 10
place (in_core probe) = 11

abbrev pub is_in : Part → List Part → Bool
is_in p ps = some_of (λ (q : Part). eqb (place q) (place p)) ps

-- the part is the same in both gates
abbrev pub Same : Part → Gate → Gate → Type 0
Same settings g h = g.core.settings ≡ h.core.settings
Same methods g h = (g.core.methods.list ≡ h.core.methods.list) × (g.core.methods.count ≡ h.core.methods.count)
Same validation g h = g.core.validation ≡ h.core.validation
Same paired g h = g.phones.paired ≡ h.phones.paired
Same store g h = g.phones.store ≡ h.phones.store
Same save g h = g.save ≡ h.save
Same queue g h = g.queue ≡ h.queue
Same code g h = g.code ≡ h.code
Same (in_core notes) g h = (g.core.methods.available ≡ h.core.methods.available) × (g.core.methods.continues ≡ h.core.methods.continues)
Same (in_core policy) g h = g.core.policy ≡ h.core.policy
Same (in_core peer) g h = g.core.peer ≡ h.core.peer
Same (in_core probe) g h = g.core.probe ≡ h.core.probe

abbrev pub Footprint : Type 0
Footprint = (g : Gate) (k : Call) (p : Part) → is_in p (touches k) ≡ false → Same p g (after g k)
