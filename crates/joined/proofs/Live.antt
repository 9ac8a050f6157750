-- `Joined` is about something: between takes of 1, 0 and 16 bytes a phone is paired, a session succeeds and everything is cleared, and the
-- bytes joined are the record as at opening.
use Prim.Native.Nat.{ℕ}
use mathlib.Core.Path.{◌≡◌, refl}
use mathlib.Core.Bool.{true, false}
use mathlib.Core.List.{List, [], ◌∷◌, ◌++◌}
use lib.ListN.{replicate}
use Rattle.arrays.specs.Arrays.{padded, put, same_bytes}
use Rattle.phones.specs.Ids.{all_of, contains, joined, pushed, room_for, some_of}
use Rattle.phones.specs.Phones.{id_bytes, id_in_range, id_of, ids_in, list_in_range, list_of, phones_of, too_long}
use Rattle.draw.specs.Draw.{digits, draw_limit, drawn, first_below, group}
use Rattle.utf8.specs.Utf8.{decode, encode, encode_all}
use Rattle.text.specs.Text.{begins_digit, is_digit, is_dropped, is_separator, is_text, right, trim, trim_front, trimmed, ungrouped, ungrouped_from, white}
use Rattle.utf8.specs.Utf8 as Utf8
use Rattle.phone_fields.specs.PhoneFields.{any_long, before, field, fields, over_limits, read_fields}
use Rattle.saved_record.specs.SavedRecord.{CarIds, record_of, car_part, car_parts, encoded, of_car, read_counted, read_after, read_car, read_on, read_cars, read_two, read_version, nothing_after, has_car, twice, over, judged, decoded}
use Rattle.saved_record.specs.Store.{car_of, laid_car, empty_car, cars_of, store_of}
use Rattle.state.specs.declared.Gate.{Gate}
use Rattle.state.specs.declared.Answer.TheVariants.{Taken, NoSave}
use Rattle.state.specs.Running as Running
use Rattle.state.specs.Checks.{checked}
use Rattle.range.specs.Range as Range
use Rattle.state.specs.Replies as Replies
use Rattle.state.specs.View.{view, car_in_range, store_in_range, lists_stay}
use Rattle.policy.specs.Policy as Policy
use Rattle.validations.specs.Store as Store
use Rattle.save.specs.Save as Save
use Rattle.pairing.specs.Pairing as Pairing
use Rattle.session_times.specs.Times as Times
use Rattle.session.specs.Session as Session
use Rattle.validation.specs.Calls as Validation
use Rattle.answers.specs.Answers as Answers
use Rattle.answers.specs.Query as Query
use Rattle.answers.specs.Query.{plain}
use Rattle.new_gate.specs.New as New
use Rattle.definition.specs.Gate as Gate
use Rattle.definition.specs.Gate.{PackedReply, Call, submit_validation_code, on_lists, restore_phone_validations, add_paired_phone, clear_paired_phones, bytes, step, after}
use Rattle.definition.specs.Cases.{known_car, phone, start}
use Rattle.round_trip.specs.Trip.{Saves}
use Rattle.joined.specs.Joined.{opened, comes_to, handed, take_into, Place}
use Rattle.joined.proofs.Proved as Proved

-- ---- the gate: its car is known, and has one phone

abbrev other : List ℕ
other = 0xC3 ∷ []

-- this car with these phones
abbrev cars : List (List ℕ) → List CarIds
cars ps = record { car = replicate 32 0x11; phones = ps } ∷ []

abbrev first : Gate
first = after known_car (on_lists (restore_phone_validations (encoded (cars (other ∷ [])))))

-- ---- the calls

-- a take into so many bytes 255
abbrev take : ℕ → Call
take n = take_into (replicate n 0xFF)

abbrev paired : List Call
paired = take 1 ∷ on_lists (add_paired_phone phone) ∷ take 0 ∷ []

-- the code is 1234
abbrev succeeded : List Call
succeeded = paired ++ (start 1_000 ∷ submit_validation_code phone (49 ∷ 50 ∷ 51 ∷ 52 ∷ []) 2_000 ∷ take 16 ∷ [])

abbrev cleared : List Call
cleared = succeeded ++ (on_lists clear_paired_phones ∷ take 16 ∷ [])

abbrev all : List Call
all = cleared ++ (take 16 ∷ [])

-- ---- what they give

-- the cars that the gate stores behind them
abbrev stored_at : List Call → List CarIds
stored_at ks = cars_of (comes_to first ks).phones.store

-- what a take of so many bytes is answered there
abbrev answer_at : List Call → ℕ → PackedReply
answer_at ks n = (step (comes_to first ks) (take n)).answer

pub record Examples : Type 0 where
  pub at_pairing : phones_of (comes_to first paired).phones.paired ≡ phone ∷ []
  pub at_success : stored_at succeeded ≡ cars (other ∷ phone ∷ [])
  pub at_clear : stored_at cleared ≡ []
  -- 33 of 37 bytes are handed out: one byte too few, exactly enough, and more, of which the last twelve stay
  pub few : answer_at cleared 3 ≡ plain (Taken 3 false)
  pub enough : answer_at cleared 4 ≡ plain (Taken 4 true)
  pub more : answer_at cleared 16 ≡ plain (Taken 4 true)
  pub lent : (step (comes_to first cleared) (take 16)).lent ≡ bytes ((0x11 ∷ 1 ∷ 1 ∷ 0xC3 ∷ []) ++ replicate 12 0xFF)
  pub bytes_joined : handed (opened first) all ≡ encoded (cars (other ∷ []))
  -- 31 behind them
  pub none : answer_at all 16 ≡ plain NoSave
  -- an empty record ends with the first take
  pub empty : (step (opened known_car) (take 0)).answer ≡ plain (Taken 0 true)

-- what they compute through
unfoldable computed : Unit {0}
unfolding padded same_bytes contains id_bytes id_in_range id_of ids_in joined list_in_range list_of phones_of pushed room_for some_of too_long digits draw_limit drawn first_below group decode encode encode_all Utf8.within is_text right trim trim_front trimmed white all_of any_long before field fields over_limits read_fields car_part car_parts encoded of_car read_counted read_after read_car read_on read_cars read_two read_version nothing_after has_car twice over judged decoded car_of laid_car empty_car cars_of store_of Range.within Range.settings_fit Range.printable Range.method_fits Range.all_fit Range.methods_in Range.methods_fit Running.method_at Running.clean_method Running.in_progress Running.code_in_progress Range.tries_fit Range.session_fits Range.window_fits Range.core_fits Range.save_fits Range.queue_fits Range.in_range view car_in_range store_in_range lists_stay Replies.leave Replies.reply Replies.finish Policy.fingerprint_confirmed Policy.is_identified Store.record_for Store.phones_for Store.restore Store.is_full Store.car_has Store.validating Pairing.pair Pairing.clear Save.no_save Save.opening Save.rest Save.taking Times.saturating_add Session.ended_as Session.is_of Session.lost_read_write Session.note_at Session.cannot_go_on Session.lapse_of Session.place_from Session.place_of Times.next_number checked Validation.end_session Validation.runs_for Validation.start_checks Validation.new_session Validation.begin Validation.start_at Validation.start Validation.refilled Validation.succeeded_core Validation.succeed Validation.right_code Validation.judge Validation.submitted Validation.submit Query.answer_to Answers.record_answer New.new_methods New.new_core New.made_core New.new_gate Gate.saying Gate.served Gate.listing Gate.saving Gate.says Gate.left Gate.gives step is_digit is_separator begins_digit is_dropped ungrouped_from ungrouped
computed = tt

-- `record_of` is opened here and not below, where a record is compared whole
pub examples : Examples
unfolding computed put record_of
examples = record {
  at_pairing = refl;
  at_success = refl;
  at_clear = refl;
  few = refl;
  enough = refl;
  more = refl;
  lent = refl;
  bytes_joined = refl;
  none = refl;
  empty = refl;
}

-- ---- what the claim says of them

saves : Saves first (record_of (encoded (cars (other ∷ []))))
unfolding computed
saves = refl

pub place : Place first (record_of (encoded (cars (other ∷ [])))) all
unfolding all_of
place = Proved.joined first _ all saves refl
