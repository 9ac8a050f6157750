-- The row is about something: from a new gate a phone is validated in each of the three ways and its command passes; another phone's is
-- denied, and so is the same phone's before, after it is forgotten, and on another bike; and back on its bike it passes again, also if
-- another phone was validated on the other bike. A command that waited is decided as it is served.
use Prim.Native.Nat.{ℕ}
use mathlib.Core.Path.{◌≡◌, refl}
use mathlib.Core.Bool.{Bool, true, false}
use mathlib.Core.List.{List, [], ◌∷◌, ◌++◌}
use lib.ListN.{replicate, set}
use Rattle.std.specs.Prelude.{unwrap_or}
use Rattle.arrays.specs.Arrays.{padded, same_bytes}
use Rattle.phones.specs.Ids.{all_of, contains, joined, kept, pushed, remove_all, room_for, some_of}
use Rattle.phones.specs.Phones.{id_bytes, id_in_range, id_of, ids_in, list_in_range, list_of, phones_of, too_long}
use Rattle.frames.specs.declared.Id.TheVariants.{Standard}
use Rattle.frames.specs.declared.CanFrame.{CanFrame}
use Rattle.frames.specs.declared.TxClass.TheVariants.{Command}
use Rattle.waiting_list.specs.declared.Waiting.{Waiting}
use Rattle.waiting_list.specs.Queue as Queue
use Rattle.waiting_list.specs.Queue.{blank}
use Rattle.sha256_block.specs.Block.{K, W, rounds}
use Rattle.sha256.specs.Sha256.{pad_last, hash_from, sha256}
use Rattle.car_digest.specs.CarDigest.{domain, car_message, car_digest}
use Rattle.draw.specs.Draw.{digits, draw_limit, drawn, first_below, group}
use Rattle.utf8.specs.Utf8.{decode, encode, encode_all}
use Rattle.text.specs.Text.{begins_digit, is_digit, is_dropped, is_separator, is_text, right, trim, trim_front, trimmed, ungrouped, ungrouped_from, white}
use Rattle.utf8.specs.Utf8 as Utf8
use Rattle.phone_fields.specs.PhoneFields.{any_long, before, field, fields, over_limits, read_fields}
use Rattle.saved_record.specs.SavedRecord.{CarIds, car_part, car_parts, encoded, of_car, read_counted, read_after, read_car, read_on, read_cars, read_two, read_version, nothing_after, has_car, twice, over, judged, decoded}
use Rattle.saved_record.specs.Store.{car_of, laid_car, empty_car, cars_of, store_of}
use Rattle.state.specs.declared.Kind.TheVariants.{InCarAction}
use Rattle.state.specs.declared.Method.{Method}
use Rattle.state.specs.declared.Gate.{Gate}
use Rattle.state.specs.declared.Decided.{Decided}
use Rattle.state.specs.declared.Answer.TheVariants.{Yes, No}
use Rattle.state.specs.Running as Running
use Rattle.state.specs.Checks.{checked}
use Rattle.range.specs.Range as Range
use Rattle.state.specs.Replies as Replies
use Rattle.state.specs.View.{view, car_in_range, store_in_range, lists_stay}
use Rattle.policy.specs.Policy as Policy
use Rattle.can_access.specs.Approval as Access
use Rattle.dev_lock.specs.DevLock as DevLock
use Rattle.policy_changes.specs.Changes as Changes
use Rattle.car_identity.specs.CarIdentity as CarIdentity
use Rattle.can.specs.Can as Can
use Rattle.phone_trust.specs.Trust as Trust
use Rattle.validations.specs.Store as Store
use Rattle.save.specs.Save as Save
use Rattle.pairing.specs.Pairing as Pairing
use Rattle.can_tx.specs.Tx as Tx
use Rattle.can_queue.specs.Calls as CanQueue
use Rattle.can_turns.specs.Turns as CanTurns
use Rattle.session_times.specs.Times as Times
use Rattle.session.specs.Session as Session
use Rattle.validation.specs.Calls as Validation
use Rattle.answers.specs.Answers as Answers
use Rattle.answers.specs.Query as Query
use Rattle.answers.specs.Query.{plain}
use Rattle.new_gate.specs.New as New
use Rattle.definition.specs.Gate as Gate
use Rattle.definition.specs.Gate.{PackedReply, Call, start_validation, submit_validation_code, on_session, on_lists, on_queue, on_core, ask, step, after_all}
use Rattle.fair_turns.specs.Turns.{entries}
use Rattle.definition.specs.Cases.{settings, method, phone, start}
use Rattle.only_validated.specs.Row.{asked, car_now, WasValidated}
use Rattle.only_validated.proofs.Proved.{only_validated}

-- ---- a new gate with the settings and the method of the cases, and a method of an in-car action

-- "act"
abbrev act : List ℕ
act = 97 ∷ 99 ∷ 116 ∷ []

abbrev methods : List Method
methods = method ∷ record { id = id_of act; kind = InCarAction; needs_approval = false } ∷ []

abbrev first : Gate
first = (New.new_gate settings methods 2).gate

abbrev other : List ℕ
other = 0xC3 ∷ 0xD4 ∷ []

-- ---- the calls

abbrev frame : CanFrame
frame = record { bus = 0; id = Standard 0x123; «data» = replicate 8 0; dlc = 8 }

-- the host confirms the bike with this fingerprint, and its owner approves it
abbrev on_bike : List ℕ → List Call
on_bike fingerprint = on_core (Gate.confirm_car_fingerprint fingerprint) ∷ on_core Gate.approve_can_read_write ∷ []

-- two bikes
abbrev bike : List Call
bike = on_bike (1 ∷ 2 ∷ 3 ∷ [])

abbrev other_bike : List Call
other_bike = on_bike (4 ∷ [])

-- a production build on a bike, its buses read-write, with both phones paired
abbrev ready : List Call
ready =
    on_core Gate.declare_production_build ∷
    on_core Gate.confirm_car_identity ∷
    bike ++
    (on_core (Gate.set_can_read_only false) ∷
    on_lists (Gate.add_paired_phone phone) ∷
    on_lists (Gate.add_paired_phone other) ∷ [])

-- the phone starts a session whose code is 1234, and types it in groups, 12 34
abbrev code_typed : List Call
code_typed = start 1_000 ∷ submit_validation_code phone (49 ∷ 50 ∷ 32 ∷ 51 ∷ 52 ∷ []) 2_000 ∷ []

-- a phone starts a session, the gate's first or second, and the action is done in the car
abbrev action_done : List ℕ → ℕ → List Call
action_done owner number = start_validation owner act 2_100 [] ∷ on_session (Gate.complete_validation_action number 2_200) ∷ []

-- the host restores a record
abbrev restored : List ℕ → List Call
restored bytes = on_lists (Gate.restore_phone_validations bytes) ∷ []

-- this bike, with the phone, as a record of either version
abbrev stored : CarIds
stored = record { car = unwrap_or (car_digest 0 (1 ∷ 2 ∷ 3 ∷ [])) (replicate 32 0); phones = phone ∷ [] }

abbrev version_two : List ℕ
version_two = encoded (stored ∷ [])

abbrev version_one : List ℕ
version_one = 1 ∷ car_part stored

abbrev forgotten : List Call
forgotten = on_lists (Gate.forget_phone_validation phone) ∷ []

-- the phone's command waits meanwhile
abbrev waits : List Waiting → Call
waits list = on_queue (Gate.send_can_frame list frame Command phone)

-- the phone is validated, then the other phone on the other bike, and the bike is back
abbrev there_and_back : List Call
there_and_back = ready ++ code_typed ++ other_bike ++ action_done other 2 ++ bike

-- ---- what a command gets after these calls

abbrev told : List Call → List ℕ → PackedReply
told ks owner = (step (after_all first ks) (on_core (Gate.allow_can_tx 0 frame Command owner 3_000))).answer

abbrev read_only : List Call → PackedReply
read_only ks = (step (after_all first ks) (ask (Query.is_can_bus_read_only 0))).answer

-- it is sent before these calls and served after them: its entry
abbrev served : List Call → List Decided
served ks = entries (after_all first (ready ++ (waits (replicate 16 blank) ∷ ks))) (on_queue (Gate.serve_can_frames (set (replicate 16 blank) 0 (record { frame = frame; class = Command; owner = id_of phone })) 1 3_000))

abbrev entry : Bool → List Decided
entry allowed = record { frame = frame; allowed = allowed } ∷ []

pub record Examples : Type 0 where
  -- validated in each of the three ways
  pub by_code : told (ready ++ code_typed) phone ≡ plain Yes
  pub by_action : told (ready ++ action_done phone 1) phone ≡ plain Yes
  pub by_record : told (ready ++ restored version_two) phone ≡ plain Yes
  pub by_old_record : told (ready ++ restored version_one) phone ≡ plain Yes
  -- another phone, paired too; no phone; the phone itself before it is validated, and after it is forgotten
  pub other_phone : told (ready ++ code_typed) other ≡ plain No
  pub no_phone : told (ready ++ code_typed) [] ≡ plain No
  pub earlier : told ready phone ≡ plain No
  pub later : told (ready ++ code_typed ++ forgotten) phone ≡ plain No
  -- the phone on another bike, whose bus is read-write
  pub away : told (ready ++ code_typed ++ other_bike) phone ≡ plain No
  pub away_bus : read_only (ready ++ code_typed ++ other_bike) ≡ plain No
  -- back on its bike, after a success on the other one (W-207); who succeeded there is denied here
  pub back : told there_and_back phone ≡ plain Yes
  pub back_other : told there_and_back other ≡ plain No
  -- a command that waited is decided as it is served, and not as it is sent (W-204)
  pub waited : served code_typed ≡ entry true
  pub waited_in_vain : served [] ≡ entry false
  pub waited_too_long : served (code_typed ++ forgotten) ≡ entry false

pub examples : Examples
unfolding padded same_bytes contains id_bytes id_in_range id_of ids_in joined kept list_in_range list_of phones_of pushed remove_all room_for some_of too_long K pad_last W rounds hash_from sha256 domain car_message car_digest digits draw_limit drawn first_below group decode encode encode_all Utf8.within is_text right trim trim_front trimmed white all_of any_long before field fields over_limits read_fields car_part car_parts encoded of_car read_counted read_after read_car read_on read_cars read_two read_version nothing_after has_car twice over judged decoded car_of laid_car empty_car cars_of store_of Range.within Range.settings_fit Range.printable Range.method_fits Range.all_fit Range.methods_in Range.methods_fit Running.method_at Running.clean_method Running.in_progress Running.code_in_progress Range.tries_fit Range.session_fits Range.window_fits Range.core_fits Range.save_fits Range.queue_fits Range.in_range Save.no_save view car_in_range store_in_range lists_stay Replies.leave Replies.quiet Replies.reply Replies.notified Replies.finish Policy.fingerprint_confirmed Policy.is_identified Policy.approved_car Policy.allows_read_write Policy.is_read_only Policy.is_fd_bus Policy.is_bus_read_only Changes.policy_changed Access.approve DevLock.declare_production CarIdentity.confirm_platform CarIdentity.confirm_fingerprint Can.lock_asked Can.set_read_only Trust.is_paired Trust.validated_now Trust.is_validated Store.with_some Store.under_every Store.phones_for Store.forgetting Store.forget Store.restore Store.is_full Store.displaced Store.validating Pairing.pair Tx.allows_command Tx.allow Queue.waiting_of Queue.oldest_on Queue.has_one Queue.first_that Queue.next_bus Queue.next_place Queue.moved Queue.closed_up Queue.with_one CanQueue.sending CanTurns.owner_validated CanTurns.turn CanTurns.turns CanTurns.turns_taken CanTurns.serving CanTurns.report_of Times.saturating_add Session.ended_as Session.is_of Session.lost_read_write Session.note_at Session.cannot_go_on Session.lapse_of Session.place_from Session.place_of Times.next_number checked Validation.end_session Validation.runs_for Validation.start_checks Validation.new_session Validation.begin Validation.start_at Validation.start Validation.refilled Validation.succeeded_core Validation.succeed Validation.right_code Validation.judge Validation.submitted Validation.submit Validation.is_action Validation.completed Validation.complete Query.answer_to Answers.if_in_range New.new_methods New.new_core New.made_core New.new_gate Gate.saying Gate.served Gate.queueing Gate.ended Gate.listing Gate.said Gate.says Gate.left Gate.gives step is_digit is_separator begins_digit is_dropped ungrouped_from ungrouped
examples = record {
  by_code = refl;
  by_action = refl;
  by_record = refl;
  by_old_record = refl;
  other_phone = refl;
  no_phone = refl;
  earlier = refl;
  later = refl;
  away = refl;
  away_bus = refl;
  back = refl;
  back_other = refl;
  waited = refl;
  waited_in_vain = refl;
  waited_too_long = refl;
}

-- what the row says of the first
pub was_validated : WasValidated (car_now (after_all first (ready ++ code_typed))) phone first (ready ++ code_typed)
was_validated = only_validated.row settings methods 2 (ready ++ code_typed) phone (asked 0 frame 3_000 examples.by_code)
