-- P1 to P13 of document 01 and the cases of W-207: the rows of specs/Cases.antt, proved as one theorem. They hold by computation alone.
use mathlib.Core.Path.{◌≡◌, refl}
use mathlib.Core.Bool.{Bool, true, false}
use mathlib.Core.List.{List, [], ◌∷◌, ◌++◌, map, map-append}
use Prim.Native.Nat.{ℕ}
use lib.ListN.{replicate}
use Rattle.arrays.specs.Arrays.{padded, same_bytes}
use Rattle.phones.specs.Ids.{some_of, all_of, kept, joined, contains, remove_all, room_for, pushed}
use Rattle.phones.specs.Phones.{id_bytes, id_in_range, id_of, ids_in, list_in_range, list_of, phones_of, too_long}
use Rattle.frames.specs.Frames.{is_entry}
use Rattle.draw.specs.Draw.{digits, draw_limit, drawn, first_below, group}
use Rattle.utf8.specs.Utf8.{begins3, begins4, decode, decode2, decode3, decode4, encode, encode_all, scalar, scalars, utf8_2, utf8_3, utf8_4, within}
use Rattle.text.specs.Text.{begins_digit, is_digit, is_dropped, is_separator, is_text, right, trim, trim_front, trimmed, ungrouped, ungrouped_from, white}
use Rattle.phone_fields.specs.PhoneFields.{any_long, before, field, fields, over_limits, read_fields}
use Rattle.saved_record.specs.SavedRecord.{car_part, car_parts, encoded, of_car, read_counted, read_after, read_car, read_on, read_cars, read_two, read_version, nothing_after, has_car, twice, over, judged, decoded}
use Rattle.saved_record.specs.Store.{car_of, laid_car, empty_car, cars_of, store_of}
use Rattle.decimal.specs.Decimal.{digits_up_to, decimal_of}
use Rattle.hexadecimal.specs.Hex.{digit, hex_of}
use Rattle.car_lines.specs.Lines.{line, phone_lines, car_lines}
use Rattle.listing.specs.Listing.{each_car, accepted_lines, refused_lines, lines_of, lines}
use Rattle.state.specs.declared.Status.{Status}
use Rattle.state.specs.declared.Status.TheVariants.{InProgress, Failed}
use Rattle.state.specs.declared.Gate.{Gate}
use Rattle.state.specs.Parts.{with_validation, with_probe}
use Rattle.state.specs.Running as Running
use Rattle.state.specs.Checks as Checks
use Rattle.state.specs.View as View
use Rattle.range.specs.Range as Range
use Rattle.state.specs.Replies as Replies
use Rattle.policy.specs.Policy as Policy
use Rattle.policy_changes.specs.Changes as Changes
use Rattle.can_access.specs.Approval as Access
use Rattle.car_identity.specs.CarIdentity as CarIdentity
use Rattle.validations.specs.Store as Store
use Rattle.save.specs.Save as Save
use Rattle.probe_window.specs.Window as Window
use Rattle.probe_window.specs.Window.{is_open, no_frame}
use Rattle.can_probe.specs.Calls as Probe
use Rattle.can_tx.specs.Tx as Tx
use Rattle.session_times.specs.Times as Times
use Rattle.session.specs.Session as Session
use Rattle.validation.specs.Calls as Validation
use Rattle.answers.specs.Answers as Answers
use Rattle.answers.specs.Query as Query
use Rattle.answers.specs.Query.{is_can_bus_listen_only}
use Rattle.new_gate.specs.New as New
use Rattle.definition.specs.Gate as Gate
use Rattle.definition.specs.Gate.{ask, after}
use Rattle.definition.specs.Cases.{Row, Observed, truth, nine, answer_after, platform, known_car, phone, start, wrong, heard, entry, open_probe, send_entry, Holds, Table, p1_p4, p5, p6, p7, p8_p9, p10_p11, p12_p13, w207}

-- ---- what the cases compute through

unfoldable open_leaves1 : Unit {0}
unfolding padded same_bytes id_bytes id_of too_long id_in_range some_of joined ids_in phones_of list_of list_in_range is_entry draw_limit group
open_leaves1 = tt

unfoldable open_leaves2 : Unit {0}
unfolding first_below digits drawn within scalar scalars encode encode_all utf8_2 begins3 utf8_3 begins4 utf8_4 decode decode2
open_leaves2 = tt

unfoldable open_leaves3 : Unit {0}
unfolding decode3 decode4 white trim_front trim is_text trimmed right field fields car_part car_parts encoded before read_fields any_long
open_leaves3 = tt

unfoldable open_leaves4 : Unit {0}
unfolding is_digit is_separator begins_digit is_dropped ungrouped_from ungrouped over_limits all_of
open_leaves4 = tt

unfoldable open_record : Unit {0}
unfolding of_car read_counted read_after read_car read_on read_cars read_two read_version nothing_after has_car twice over judged decoded car_of laid_car empty_car cars_of store_of
open_record = tt

unfoldable open_listing : Unit {0}
unfolding line phone_lines car_lines each_car accepted_lines refused_lines lines_of lines hex_of digit decimal_of digits_up_to
open_listing = tt

unfoldable open_state1 : Unit {0}
unfolding Range.within Range.settings_fit Range.printable Range.method_fits Range.all_fit Range.methods_in
open_state1 = tt

unfoldable open_state2 : Unit {0}
unfolding Range.methods_fit Running.clean_method Running.method_at Running.in_progress Running.code_in_progress Range.tries_fit
open_state2 = tt

unfoldable open_state3 : Unit {0}
unfolding Range.session_fits Range.window_fits Range.core_fits Range.save_fits Range.queue_fits Range.in_range Save.no_save Replies.no_signals Replies.nothing_raised Replies.phone_access_changed
open_state3 = tt

unfoldable open_state4 : Unit {0}
unfolding Replies.read_only_changed Replies.challenge_changed Replies.leave Replies.quiet Replies.reply Replies.notified
open_state4 = tt

unfoldable open_state5 : Unit {0}
unfolding Replies.finish View.view View.car_in_range View.store_in_range
open_state5 = tt

unfoldable open_access1 : Unit {0}
unfolding Policy.fingerprint_confirmed Policy.identified_car Policy.is_identified Policy.dev_lock Policy.dev_unlocked
open_access1 = tt

unfoldable open_access2 : Unit {0}
unfolding Policy.approved_car Policy.allows_read_write Policy.is_read_only Policy.is_fd_bus Policy.is_bus_read_only Changes.policy_changed
open_access2 = tt

unfoldable open_access3 : Unit {0}
unfolding CarIdentity.confirm_platform
open_access3 = tt

unfoldable open_phones : Unit {0}
unfolding room_for pushed Store.record_for Store.with_some Store.under_every Store.forgetting Store.forget Store.restore Store.phones_for Store.is_full Store.car_has Store.displaced Store.validating Access.approve remove_all kept contains
open_phones = tt

unfoldable open_probe1 : Unit {0}
unfolding Window.is_awake Window.is_bus_awake Window.heard_at Window.probe_needed Window.is_within_time Window.is_open
open_probe1 = tt

unfoldable open_probe2 : Unit {0}
unfolding Window.is_listen_only Window.ids_in_range Window.first_unsent Window.unsent_in Window.new_window Window.marked_sent
open_probe2 = tt

unfoldable open_probe3 : Unit {0}
unfolding Probe.is_valid_probe Probe.window_changed Probe.open_probe Tx.through_window Tx.allow_platform Tx.allow Probe.heard
open_probe3 = tt

unfoldable open_sessions1 : Unit {0}
unfolding Times.saturating_add Times.seconds_to Session.seconds_of Session.reply_of Session.ended_as Session.is_of
open_sessions1 = tt

unfoldable open_sessions2 : Unit {0}
unfolding Session.lost_read_write Session.note_at Session.cannot_go_on Session.lapse_of Session.place_from Session.place_of
open_sessions2 = tt

unfoldable open_sessions3 : Unit {0}
unfolding Times.next_number Checks.checked Validation.end_session Validation.tick Validation.runs_for Validation.start_checks
open_sessions3 = tt

unfoldable open_sessions4 : Unit {0}
unfolding Validation.new_session Validation.challenge_for Validation.begin Validation.start_at Validation.start
open_sessions4 = tt

unfoldable open_sessions5 : Unit {0}
unfolding Validation.refilled Validation.succeeded_core Validation.succeed Validation.failed_core Validation.tried_core
open_sessions5 = tt

unfoldable open_sessions6 : Unit {0}
unfolding Validation.wrong Validation.right_code Validation.judge Validation.submitted Validation.submit
open_sessions6 = tt

unfoldable open_answers : Unit {0}
unfolding Query.answer_to Answers.if_in_range Answers.record_answer Answers.is_shown Answers.session_shown
open_answers = tt

unfoldable open_gate : Unit {0}
unfolding New.new_methods New.new_core New.made_core New.new_gate Gate.saying Gate.served Gate.ended Gate.listing Gate.said Gate.says Gate.left Gate.gives Gate.step Holds
open_gate = tt

unfoldable open_all : Unit {0}
unfolding open_leaves1 open_leaves2 open_leaves3 open_leaves4 open_record open_listing open_state1 open_state2 open_state3 open_state4 open_state5 open_access1 open_access2 open_access3 open_phones open_probe1 open_probe2 open_probe3 open_sessions1 open_sessions2 open_sessions3 open_sessions4 open_sessions5 open_sessions6 open_answers open_gate
open_all = tt

-- ---- the cases, line by line of 01

p1_p4_holds : Holds p1_p4
unfolding open_all
p1_p4_holds = refl

p5_holds : Holds p5
unfolding open_all
p5_holds = refl

p6_holds : Holds p6
unfolding open_all
p6_holds = refl

-- the gate of P7 in its session, which began at 1,000: each call is computed once, from the gate as the one before it left it
abbrev in_session : Status → ℕ → ℕ → ℕ → List ℕ → Gate
in_session status ended cooldown tries code = record {
  core =
      with_validation known_car.core
      (record {
        session = record { present = true; number = 1; phone = id_of phone; method = 0; car = replicate 32 0x11; deadline = 61_000; status = status; ended = ended };
        cooldown_until = cooldown;
        next = 2;
        tries = tries;
      });
  phones = known_car.phones;
  save = known_car.save;
  queue = known_car.queue;
  code = code;
}

abbrev in_progress_with : ℕ → Gate
in_progress_with tries = in_session InProgress 0 0 tries (nine "1234")

abbrev failed : Gate
failed = in_session Failed 5_000 35_000 3 (replicate 9 0)

begun : after known_car (start 1_000) ≡ in_progress_with 3
unfolding open_all
begun = refl

one_wrong : after (in_progress_with 3) (wrong 3_000) ≡ in_progress_with 2
unfolding open_all
one_wrong = refl

two_wrong : after (in_progress_with 2) (wrong 4_000) ≡ in_progress_with 1
unfolding open_all
two_wrong = refl

three_wrong : after (in_progress_with 1) (wrong 5_000) ≡ failed
unfolding open_all
three_wrong = refl

-- the rows of P7, on those gates
p7_there : (answer_after (in_progress_with 1) [] (wrong 5_000) ∷ answer_after failed [] (start 34_999) ∷ answer_after failed [] (start 35_000) ∷ []) ≡ map (λ (r : Row). r.wanted) p7
unfolding open_all
p7_there = refl

p7_holds : Holds p7
unfolding Holds
p7_holds = rw (begun, one_wrong, two_wrong, three_wrong, p7_there)

p8_p9_holds : Holds p8_p9
unfolding open_all
p8_p9_holds = refl

-- the gate of P10 and P11 with its window: which of the two entries were sent
abbrev in_window : Bool → Bool → Gate
in_window first second = record {
  core =
      with_probe platform.core
      (record {
        window = record { present = true; bus = 0; frames = padded 4 no_frame (entry ∷ entry ∷ []); count = 2; opened = 100; relocks = 0; sent = first ∷ second ∷ false ∷ false ∷ [] };
        attempts = 1;
        relocks = 0;
        heard = true ∷ false ∷ false ∷ false ∷ [];
        marks = 100 ∷ 0 ∷ 0 ∷ 0 ∷ [];
      });
  phones = platform.phones;
  save = platform.save;
  queue = platform.queue;
  code = platform.code;
}

window_opens : after (after platform (heard 100)) (open_probe 100) ≡ in_window false false
unfolding open_all
window_opens = refl

one_passes : after (in_window false false) (send_entry 200) ≡ in_window true false
unfolding open_all
one_passes = refl

both_pass : after (in_window true false) (send_entry 200) ≡ in_window true true
unfolding open_all
both_pass = refl

-- what P10 looks at
abbrev looks_at : Gate → ℕ → List Observed
looks_at g clock =
    truth (is_open g.core.policy g.core.probe 0 clock) ∷ answer_after g [] (send_entry clock) ∷ answer_after g [] (ask (is_can_bus_listen_only 0 clock)) ∷ []

p10_there : looks_at (in_window false false) 6_099 ++ looks_at (in_window false false) 50 ++ looks_at (in_window false false) 6_100
    ++ (answer_after (in_window false false) [] (send_entry 200) ∷ answer_after (in_window true false) [] (send_entry 200) ∷ answer_after (in_window true true) [] (send_entry 200) ∷ [])
    ≡ map (λ (r : Row). r.wanted) p10_p11
unfolding open_all
p10_there = refl

p10_p11_holds : Holds p10_p11
unfolding Holds
p10_p11_holds = rw (window_opens, one_passes, both_pass, p10_there)

p12_p13_holds : (byte : ℕ) → Holds (p12_p13 byte)
unfolding open_all
p12_p13_holds byte = refl

w207_holds : Holds w207
unfolding open_all
w207_holds = refl

-- ---- the table

-- rows that hold, and more that hold
both : (rs qs : List Row) → Holds rs → Holds qs → Holds (rs ++ qs)
unfolding Holds
both rs qs h k = rw (map-append, map-append, h, k)

-- every row gives what 01 says
pub table : Table
table byte =
    both p1_p4 _ p1_p4_holds (both p5 _ p5_holds (both p6 _ p6_holds (both p7 _ p7_holds (both p8_p9 _ p8_p9_holds (both p10_p11 _ p10_p11_holds (both (p12_p13 byte) _ (p12_p13_holds byte) w207_holds))))))
