-- The gate: what each call says, and the one definition of what it gives, `step`.
use Rattle.std.specs.Prelude.{◌≡◌, Bool, true, false, cond, List, [], ◌∷◌, ℕ, is_some, unwrap_or, ltb, length}
use Rattle.phones.specs.declared.PhoneList.{PhoneList}
use Rattle.phones.specs.Ids.{Left, stays, becomes, afterwards}
use Rattle.phones.specs.Phones.{id_bytes, list_of}
use Rattle.draw.specs.Draw.{drawn}
use Rattle.text.specs.Text.{is_text, right}
use Rattle.saved_record.specs.declared.Store.{Store}
use Rattle.saved_record.specs.SavedRecord.{CarIds}
use Rattle.saved_record.specs.Store.{store_of}
use Rattle.state.specs.declared.Method.{Method}
use Rattle.state.specs.declared.Settings.{Settings}
use Rattle.state.specs.declared.Session.{Session}
use Rattle.state.specs.declared.Core.{Core}
use Rattle.state.specs.declared.Gate.{Gate}
use Rattle.state.specs.declared.Answer.TheVariants.{Done, BadSettings}
use Rattle.state.specs.declared.Raised.{Raised}
use Rattle.state.specs.declared.Signals.{Signals}
use Rattle.state.specs.declared.Said.{Said}
use Rattle.state.specs.declared.Ended.{Ended}
use Rattle.state.specs.declared.Outcome.{Outcome}
use Rattle.state.specs.declared.Ran.{Ran}
use Rattle.state.specs.declared.Save.{Save}
use Rattle.state.specs.declared.Queue.{Queue}
use Rattle.state.specs.Answers.{Numbered, numbered}
use Rattle.state.specs.Replies.{no_s, sent_s, nothing_raised, sending, no_signals, no_code, code_at, showing}
use Rattle.state.specs.View.{Lists, View, Listing, view, laid_phones}
use Rattle.range.specs.Range.{in_range}
use Rattle.can_access.specs.Approval as Access
use Rattle.dev_lock.specs.DevLock as DevLock
use Rattle.car_identity.specs.CarIdentity as CarIdentity
use Rattle.can.specs.Can as Can
use Rattle.pairing.specs.Pairing as Pairing
use Rattle.save.specs.Save.{Saving, no_save, opening, taking}
use Rattle.waiting_list.specs.declared.Waiting.{Waiting}
use Rattle.can_queue.specs.Calls as CanQueue
use Rattle.can_queue.specs.Calls.{Sending}
use Rattle.can_turns.specs.Turns.{Serving, serving, report_of}
use Rattle.validations.specs.Store as Validations
use Rattle.validations.specs.Store.{record_for, is_full, validating}
use Rattle.phone_trust.specs.Trust.{is_validated}
use Rattle.can_probe.specs.Calls as Probe
use Rattle.can_tx.specs.Tx as Tx
use Rattle.validation.specs.Calls as Validation
use Rattle.validation.specs.Calls.{unvalidated}
use Rattle.methods.specs.Notes as Methods
use Rattle.answers.specs.Query as Query
use Rattle.answers.specs.Query.{Reply, ReplyByIds, plain, numbered_reply, answer_to}
use Rattle.new_gate.specs.New.{made_core, new_queue}
-- ---- the calls

pub use Rattle.definition.specs.Calls.{SessionCall, cancel_validation, complete_validation_action, tick_validation, ListCall, add_paired_phone, remove_paired_phone, clear_paired_phones, forget_phone_validation, prune_phone_validations, restore_phone_validations, SaveCall, open_phone_validations_save, take_phone_validations_save, QueueCall, send_can_frame, serve_can_frames, CoreCall, set_ble_peer, approve_can_read_write, revoke_can_read_write_approval, restore_can_read_write_approval, set_can_dev_write_unlocked, declare_production_build, confirm_car_identity, revoke_car_identity, confirm_car_fingerprint, set_can_read_only, open_identity_probe, close_identity_probe, allow_can_tx, heard_can_frame, note_platform_id, note_can_logging, note_can_fd_bus, note_method_available, note_method_can_continue, Call, new_gate_call, start_validation, submit_validation_code, on_session, on_lists, on_save, on_queue, on_core, ask, Lent, nothing, bytes, records, lent_to, lent_to_save, lent_to_queue}

-- ---- what a call says

-- what becomes of lent memory, of what becomes of the bytes or records in it
abbrev pub lent_as : {A : Type 0} → (A → Lent) → Left A → Left Lent
lent_as f stays = stays
lent_as f (becomes x) = becomes (f x)

-- as a call leaves it: where none was lent, there is none
abbrev pub lent_after : Lent → Left Lent → Lent
lent_after nothing x = nothing
lent_after (bytes b) x = afterwards (bytes b) x
lent_after (records l) x = afterwards (records l) x

-- its answer, with lists by their ids; what it sends, and whether S too; what becomes of each part of the gate, and of the memory that it was
-- lent
pub record Says : Type 0 where
  pub answer : ReplyByIds
  pub raised : Raised
  pub stores : Bool
  pub core : Core
  pub paired : Left (List (List ℕ))
  pub store : Left (List CarIds)
  pub save : Save
  pub queue : Queue
  pub code : List ℕ
  pub lent : Left Lent

-- an operation is not given the digits: it marks where there are none, where the gate's stay, and where those drawn by this call go
unfoldable pub saying : View → List ℕ → Said → Bool → Left (List CarIds) → Says
saying v drawn o stores store = record {
  answer = plain o.answer;
  raised = showing (code_at v.code drawn o.shows) o.raised;
  stores = stores;
  core = o.core;
  paired = stays;
  store = store;
  save = v.save;
  queue = v.queue;
  code = code_at v.code drawn o.code;
  lent = stays;
}

-- an operation on the core leaves the lists
abbrev pub of_core : View → List ℕ → Said → Says
of_core v drawn o = saying v drawn o false stays

-- a session that succeeds validates its phone for its car
abbrev pub validates : List CarIds → Session → Bool → Left (List CarIds)
validates cs e false = stays
validates cs e true = validating cs e.car (id_bytes e.phone)

abbrev pub of_session : View → Ended → Says
of_session v e = saying v no_code e.said e.validates (validates v.lists.store e.said.core.validation.session e.validates)

-- an operation on the lists leaves the core and the digits
abbrev pub of_lists : View → Listing → Says
of_lists v x = record {
  answer = plain x.answer;
  raised = x.raised;
  stores = x.stores;
  core = v.core;
  paired = x.paired;
  store = x.store;
  save = v.save;
  queue = v.queue;
  code = v.code;
  lent = stays;
}

-- an operation on the save leaves everything else
abbrev pub of_save : View → Saving → Says
of_save v x = record {
  answer = plain x.answer;
  raised = nothing_raised;
  stores = false;
  core = v.core;
  paired = stays;
  store = stays;
  save = x.save;
  queue = v.queue;
  code = v.code;
  lent = lent_as bytes x.lent;
}

-- sending a frame leaves everything but the count and the lent list
abbrev pub of_sending : View → Sending → Says
of_sending v x = record {
  answer = plain x.answer;
  raised = nothing_raised;
  stores = false;
  core = v.core;
  paired = stays;
  store = stays;
  save = v.save;
  queue = x.queue;
  code = v.code;
  lent = lent_as records x.lent;
}

-- a run leaves in the core what allow leaves there
abbrev pub of_serving : View → Serving → Says
of_serving v x = record {
  answer = Query.report Done (report_of x.decided);
  raised = nothing_raised;
  stores = false;
  core = x.core;
  paired = stays;
  store = stays;
  save = v.save;
  queue = x.queue;
  code = v.code;
  lent = becomes (records x.list);
}

-- a query changes nothing and raises nothing
abbrev pub asked : View → ReplyByIds → Says
asked v r = record {
  answer = r;
  raised = nothing_raised;
  stores = false;
  core = v.core;
  paired = stays;
  store = stays;
  save = v.save;
  queue = v.queue;
  code = v.code;
  lent = stays;
}

-- 01, New gate: a gate out of range gets 25 first, and stays unchanged
unfoldable pub served : View → Says → Says
served v s = cond (in_range v) s (asked v (plain BadSettings))

-- ---- each call, on a gate in range

-- `full`: this car's list is full without the session's phone
unfoldable pub ended : Core → Bool → SessionCall → Ended
ended c full (cancel_validation phone clock) = unvalidated (Validation.cancel c phone clock)
ended c full (complete_validation_action session clock) = Validation.complete c session clock full
ended c full (tick_validation clock) = unvalidated (Validation.tick c clock)

-- `bonded`: the set limit
unfoldable pub listing : Lists → ℕ → ListCall → Listing
listing l bonded (add_paired_phone id) = Pairing.pair l.paired bonded id
listing l bonded (remove_paired_phone id) = Pairing.unpair l id
listing l bonded clear_paired_phones = Pairing.clear l
listing l bonded (forget_phone_validation id) = Validations.forget l id
listing l bonded prune_phone_validations = Validations.prune l
listing l bonded (restore_phone_validations saved) = Validations.restore saved

unfoldable pub saving : List CarIds → Save → SaveCall → Saving
saving cs s open_phone_validations_save = opening cs
saving cs s (take_phone_validations_save out) = taking s out

-- 25 of a run reports no turn
unfoldable pub queueing : View → QueueCall → Says
queueing v (send_can_frame list frame class owner) = served v (of_sending v (CanQueue.sending v.queue list frame class owner))
queueing v (serve_can_frames list turns clock) =
    cond (in_range v)
    (of_serving v (serving v.core v.lists v.queue list turns clock))
    (asked v (Query.report BadSettings (report_of [])))

unfoldable pub said : Core → Lists → CoreCall → Said
said c l (set_ble_peer id) = Pairing.set_peer c id
said c l approve_can_read_write = Access.approve c
said c l revoke_can_read_write_approval = Access.revoke_approval c
said c l (restore_can_read_write_approval approval) = Access.restore_approval c approval
said c l (set_can_dev_write_unlocked unlocked) = DevLock.set_dev_unlocked c unlocked
said c l declare_production_build = DevLock.declare_production c
said c l confirm_car_identity = CarIdentity.confirm_platform c
said c l revoke_car_identity = CarIdentity.revoke_platform c
said c l (confirm_car_fingerprint fingerprint) = CarIdentity.confirm_fingerprint c fingerprint
said c l (set_can_read_only enabled) = Can.set_read_only c enabled
said c l (open_identity_probe bus frames count clock) = Probe.open_probe c bus frames count clock
said c l close_identity_probe = Probe.close_probe c
said c l (allow_can_tx bus frame class owner clock) =
    Tx.allow c bus frame class (is_validated c.policy.identity l owner) clock
said c l (heard_can_frame bus clock) = Probe.heard c bus clock
said c l (note_platform_id number) = CarIdentity.note_platform c number
said c l (note_can_logging on) = Can.note_logging c on
said c l (note_can_fd_bus bus on) = Can.note_fd_bus c bus on
said c l (note_method_available place on) = Methods.note_available c place on
said c l (note_method_can_continue place on) = Methods.note_continue c place on

-- some random byte is lent
abbrev pub is_lent : List ℕ → Bool
is_lent random = ltb 0 (length random)

-- this car's list is full without the session's phone
abbrev pub full_for : View → Bool
full_for v = is_full v.lists.store v.core.validation.session.car (id_bytes v.core.validation.session.phone)

unfoldable pub says : View → Call → Says
says v (new_gate_call settings methods count) =
    let m = made_core settings methods count in
    record {
      answer = plain m.answer;
      raised = nothing_raised;
      stores = false;
      core = m.core;
      paired = becomes [];
      store = becomes [];
      save = no_save;
      queue = new_queue;
      code = no_code;
      lent = stays;
    }
says v (start_validation phone method clock random) =
    let d = drawn random v.core.settings.digits in
    served v (of_core v (unwrap_or d no_code) (Validation.start v.core phone method clock (is_lent random) (is_some d)))
says v (submit_validation_code phone typed clock) =
    let is_right = right v.code v.core.settings.digits typed in
    served v (of_session v (Validation.submit v.core phone clock (is_text typed) is_right (full_for v)))
says v (on_session k) = served v (of_session v (ended v.core (full_for v) k))
says v (on_lists k) = served v (of_lists v (listing v.lists v.core.settings.bonded k))
says v (on_save k) = served v (of_save v (saving v.lists.store v.save k))
says v (on_queue k) = queueing v k
says v (on_core k) = served v (of_core v no_code (said v.core v.lists k))
says v (ask q) = asked v (answer_to v q)

-- ---- the one definition

-- what a call gives: the answer by document 01's number and values, and as it is returned; signals, lent memory, gate. G is a gate, L a
-- list and S a store, as they lie in memory
pub record GivenIn (G L S : Type 0) : Type 0 where
  pub numbered : Numbered
  pub answer : Reply L S
  pub signals : Signals
  pub lent : Lent
  pub gate : G

-- how a gate lies in memory: what is seen of it, the gate that a call leaves, and a list and a store that are returned
pub record Form (G L S : Type 0) : Type 0 where
  pub view : G → View
  pub left : G → Says → G
  pub lay : List (List ℕ) → L
  pub lay_store : List CarIds → S

-- an answer with its lists written otherwise
abbrev pub replied : {K L R S : Type 0} → (K → L) → (R → S) → Reply K R → Reply L S
replied f h (plain a) = plain a
replied f h (Query.approval a) = Query.approval a
replied f h (Query.access a) = Query.access a
replied f h (Query.phones a ps) = Query.phones a (f ps)
replied f h (Query.trust a) = Query.trust a
replied f h (Query.peer a) = Query.peer a
replied f h (Query.phone_access a) = Query.phone_access a
replied f h (Query.methods a) = Query.methods a
replied f h (Query.challenge a) = Query.challenge a
replied f h (Query.saved a) = Query.saved a
replied f h (Query.preview a paired store n) = Query.preview a (f paired) (h store) n
replied f h (Query.report a r) = Query.report a r

-- S, where it is sent, is the record of the store that is left
unfoldable pub gives : {G L S : Type 0} → Form G L S → G → Lent → Says → GivenIn G L S
gives f g memory s = record {
  numbered = numbered_reply s.answer;
  answer = replied f.lay f.lay_store s.answer;
  signals = sending s.raised (cond s.stores (sent_s (record_for (afterwards (f.view g).lists.store s.store))) no_s);
  lent = lent_after memory s.lent;
  gate = f.left g s;
}

abbrev pub step_in : {G L S : Type 0} → Form G L S → G → Call → GivenIn G L S
step_in f g k = gives f g (lent_to k) (says (f.view g) k)

-- ---- the gate as it lies in memory: lists are packed

-- the gate that a call leaves
unfoldable pub left : Gate → Says → Gate
left g s = record { core = s.core; phones = laid_phones g.phones s.paired s.store; save = s.save; queue = s.queue; code = s.code }

abbrev pub packed : Form Gate PhoneList Store
packed = record { view = view; left = left; lay = list_of; lay_store = store_of }

abbrev pub Given : Type 0
Given = GivenIn Gate PhoneList Store

-- an answer as it is returned: lists in it are laid canonically
abbrev pub PackedReply : Type 0
PackedReply = Reply PhoneList Store

abbrev pub laid_reply : ReplyByIds → PackedReply
laid_reply r = replied list_of store_of r

unfoldable pub step : Gate → Call → Given
step g k = step_in packed g k

-- the gate that a call leaves
abbrev pub after : Gate → Call → Gate
after g k = (step g k).gate

-- the gate after calls, each lent the gate as the call before it left it
abbrev pub after_all : Gate → List Call → Gate
after_all g [] = g
after_all g (k ∷ ks) = after_all (after g k) ks

-- ---- what code returns, as what a call gives

abbrev pub given_with : Outcome → Lent → Given
given_with o memory = record { numbered = numbered o.answer; answer = plain o.answer; signals = o.signals; lent = memory; gate = o.gate }

abbrev pub given : Outcome → Given
given o = given_with o nothing

-- of a call that is lent memory, with what it leaves there
abbrev pub lent_given : Outcome → List ℕ → Given
lent_given o out = given_with o (bytes out)

abbrev pub lent_records : Outcome → List Waiting → Given
lent_records o list = given_with o (records list)

-- a run returns its report too
abbrev pub ran_given : Ran → List Waiting → Given
ran_given r list = record {
  numbered = numbered r.outcome.answer;
  answer = Query.report r.outcome.answer r.report;
  signals = r.outcome.signals;
  lent = records list;
  gate = r.outcome.gate;
}

-- a query returns its answer alone
abbrev pub answered : Gate → PackedReply → Given
answered g r = record { numbered = numbered_reply r; answer = r; signals = no_signals; lent = nothing; gate = g }

-- New gate gives this outcome, whatever gate was before it
abbrev pub NewFrom : Outcome → Settings → List Method → ℕ → Type 0
NewFrom o settings methods count = (g : Gate) → given o ≡ step g (new_gate_call settings methods count)
