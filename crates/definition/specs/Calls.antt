-- The calls of document 01 and of 02's requests, and the memory that each is lent.
use Rattle.std.specs.Prelude.{Bool, List, ℕ}
use Rattle.frames.specs.declared.CanFrame.{CanFrame}
use Rattle.frames.specs.declared.ProbeFrame.{ProbeFrame}
use Rattle.frames.specs.declared.TxClass.{TxClass}
use Rattle.state.specs.declared.Car.{Car}
use Rattle.state.specs.declared.Method.{Method}
use Rattle.state.specs.declared.Settings.{Settings}
use Rattle.waiting_list.specs.declared.Waiting.{Waiting}
use Rattle.answers.specs.Query.{Query}

-- ---- the calls. Those of a session, those on the lists, those on the save, those on the waiting frames and those on the core alone are told
-- apart by type. Start and submit stand alone, since demand 3 lets the random bytes and the typed code differ between its two runs

pub data SessionCall : Type 0 where
  cancel_validation : (phone : List ℕ) (clock : ℕ) → SessionCall
  complete_validation_action : (session clock : ℕ) → SessionCall
  tick_validation : (clock : ℕ) → SessionCall

pub data ListCall : Type 0 where
  add_paired_phone remove_paired_phone : (id : List ℕ) → ListCall
  clear_paired_phones : ListCall
  forget_phone_validation : (id : List ℕ) → ListCall
  prune_phone_validations : ListCall
  restore_phone_validations : (bytes : List ℕ) → ListCall

-- `out` is memory that the call is lent: what it holds before
pub data SaveCall : Type 0 where
  open_phone_validations_save : SaveCall
  take_phone_validations_save : (out : List ℕ) → SaveCall

-- `list` is the list that the call is lent: what it holds before
pub data QueueCall : Type 0 where
  send_can_frame : (list : List Waiting) (frame : CanFrame) (class : TxClass) (owner : List ℕ) → QueueCall
  serve_can_frames : (list : List Waiting) (turns clock : ℕ) → QueueCall

pub data CoreCall : Type 0 where
  set_ble_peer : (id : List ℕ) → CoreCall
  approve_can_read_write revoke_can_read_write_approval : CoreCall
  restore_can_read_write_approval : (approval : Car) → CoreCall
  set_can_dev_write_unlocked : (unlocked : Bool) → CoreCall
  declare_production_build confirm_car_identity revoke_car_identity : CoreCall
  confirm_car_fingerprint : (fingerprint : List ℕ) → CoreCall
  set_can_read_only : (enabled : Bool) → CoreCall
  open_identity_probe : (bus : ℕ) (frames : List ProbeFrame) (count clock : ℕ) → CoreCall
  close_identity_probe : CoreCall
  allow_can_tx : (bus : ℕ) (frame : CanFrame) (class : TxClass) (owner : List ℕ) (clock : ℕ) → CoreCall
  heard_can_frame : (bus clock : ℕ) → CoreCall
  note_platform_id : (number : ℕ) → CoreCall
  note_can_logging : (on : Bool) → CoreCall
  note_can_fd_bus : (bus : ℕ) (on : Bool) → CoreCall
  note_method_available note_method_can_continue : (place : ℕ) (on : Bool) → CoreCall

pub data Call : Type 0 where
  new_gate_call : (settings : Settings) (methods : List Method) (count : ℕ) → Call
  start_validation : (phone method : List ℕ) (clock : ℕ) (random : List ℕ) → Call
  submit_validation_code : (phone typed : List ℕ) (clock : ℕ) → Call
  on_session : SessionCall → Call
  on_lists : ListCall → Call
  on_save : SaveCall → Call
  on_queue : QueueCall → Call
  on_core : CoreCall → Call
  ask : Query → Call

-- ---- memory that a call is lent

pub data Lent : Type 0 where
  nothing : Lent
  bytes : List ℕ → Lent
  records : List Waiting → Lent

abbrev pub lent_to_save : SaveCall → Lent
lent_to_save open_phone_validations_save = nothing
lent_to_save (take_phone_validations_save out) = bytes out

abbrev pub lent_to_queue : QueueCall → Lent
lent_to_queue (send_can_frame list frame class owner) = records list
lent_to_queue (serve_can_frames list turns clock) = records list

abbrev pub lent_to : Call → Lent
lent_to (new_gate_call settings methods count) = nothing
lent_to (start_validation phone method clock random) = nothing
lent_to (submit_validation_code phone typed clock) = nothing
lent_to (on_session k) = nothing
lent_to (on_lists k) = nothing
lent_to (on_save k) = lent_to_save k
lent_to (on_queue k) = lent_to_queue k
lent_to (on_core k) = nothing
lent_to (ask q) = nothing
