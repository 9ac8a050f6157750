-- Demand 3 is about something: every run has itself for a partner; there are two runs with different codes in which one code is judged
-- wrong and one right; a run meets the bound, and one with two phones the bound of W-206; and hiding hides the digits only.
use mathlib.Core.Path.{◌≡◌, refl, sym, ap, ◌∙◌}
use mathlib.Core.Bool.{Bool, true, false, true≢false}
use mathlib.Core.List.{List, [], ◌∷◌, map}
use Prim.Native.Nat.{ℕ}
use lib.ListN.{length, drop, replicate}
use Rattle.arrays.specs.Arrays.{padded, same_bytes}
use Rattle.phones.specs.Ids.{all_of, contains, joined, some_of}
use Rattle.phones.specs.Phones.{id_bytes, id_in_range, id_of, ids_in, list_in_range, list_of, phones_of, too_long}
use Rattle.draw.specs.Draw.{digits, draw_limit, drawn, first_below, group}
use Rattle.utf8.specs.Utf8.{decode, encode, encode_all}
use Rattle.text.specs.Text.{begins_digit, is_digit, is_dropped, is_separator, is_text, right, trim, trim_front, trimmed, ungrouped, ungrouped_from, white}
use Rattle.utf8.specs.Utf8 as Utf8
use Rattle.saved_record.specs.SavedRecord.{twice}
use Rattle.saved_record.specs.Store.{cars_of, store_of}
use Rattle.state.specs.declared.Kind.TheVariants.{CodeEntry}
use Rattle.state.specs.declared.Status.{Status}
use Rattle.state.specs.declared.Status.TheVariants.{InProgress, Succeeded, Failed}
use Rattle.state.specs.declared.Settings.{Settings}
use Rattle.state.specs.declared.SessionReply.{SessionReply}
use Rattle.state.specs.declared.Challenge.{Challenge}
use Rattle.state.specs.declared.Core.{Core}
use Rattle.state.specs.declared.Gate.{Gate}
use Rattle.state.specs.declared.Answer.{Answer}
use Rattle.state.specs.Parts.{with_policy}
use Rattle.state.specs.Running as Running
use Rattle.state.specs.Checks.{checked}
use Rattle.range.specs.Range as Range
use Rattle.state.specs.View as View
use Rattle.state.specs.Replies as Replies
use Rattle.policy.specs.Policy as Policy
use Rattle.validations.specs.Store as Store
use Rattle.save.specs.Save as Save
use Rattle.session_times.specs.Times as Times
use Rattle.session.specs.Session as Session
use Rattle.validation.specs.Calls as Validation
use Rattle.answers.specs.declared.ChallengeAnswer.{ChallengeAnswer}
use Rattle.answers.specs.Query as Query
use Rattle.answers.specs.Query.{plain}
use Rattle.new_gate.specs.New as New
use Rattle.definition.specs.Gate as Gate
use Rattle.definition.specs.Gate.{PackedReply, Call, new_gate_call, start_validation, submit_validation_code, on_session, on_lists, on_save, on_queue, on_core, ask, Given, after}
use Rattle.two_runs.specs.Demand.{blanked, hide_gate, hide_challenge, hide_signals, hide_reply, seen, run, code_runs, Alike, starts, submits, news, session_calls, list_calls, save_calls, queue_calls, core_calls, asks, TwoRuns, end, next, judged_wrong, begins, Tally, parts, sessions, AlikeGates}
use Rattle.two_runs.specs.Refills as Refills
use Rattle.two_runs.proofs.Digits.{same_length, same_past}

-- ---- every run has itself for a partner

self : (g : Gate) (c : Call) → Alike g g c c
self g (new_gate_call settings methods count) = news settings methods count
self g (start_validation phone method clock random) = starts phone method clock random random (λ d. (refl, refl))
self g (submit_validation_code phone typed clock) = submits phone clock typed typed (λ f. refl) (λ x j. refl)
self g (on_session k) = session_calls k
self g (on_lists k) = list_calls k
self g (on_save k) = save_calls k
self g (on_queue k) = queue_calls k
self g (on_core k) = core_calls k
self g (ask q) = asks q

pub mirror : (g : Gate) (cs : List Call) → TwoRuns g g cs cs
mirror g [] = end
mirror g (c ∷ cs) = next (self g c) (mirror (after g c) cs)

pub alike_itself : (g : Gate) → AlikeGates g g
alike_itself g = (refl, λ r. refl)

-- ---- the cases' gate: 4 digits, 3 tries, one method of code entry, the car known

abbrev settings : Settings
settings = record { digits = 4; tries = 3; session = 60_000; cooldown = 30_000; keep = 10_000; bonded = 8 }

-- "code"
abbrev method : List ℕ
method = 99 ∷ 111 ∷ 100 ∷ 101 ∷ []

abbrev made : Core
made = New.new_core settings (New.new_methods (record { id = id_of method; kind = CodeEntry; needs_approval = false } ∷ []) 1)

abbrev pub ready : Gate
ready = record {
  core = with_policy made (record {
    identity = record { platform = 0; confirmed = true; car = record { known = true; digest = replicate 32 0x11 } };
    access = made.policy.access;
    buses = made.policy.buses;
  });
  phones = record { paired = list_of []; store = store_of [] };
  save = Save.no_save;
  queue = New.new_queue;
  code = Replies.no_code;
}

abbrev phone : List ℕ
phone = 0xA1 ∷ 0xB2 ∷ []

-- ---- two runs: each draws its own code, types a wrong one and then its own

abbrev pub start : ℕ → List ℕ → Call
start clock random = start_validation phone method clock random

abbrev pub submit : ℕ → List ℕ → Call
submit clock typed = submit_validation_code phone typed clock

-- 1234 and 0007
abbrev four : List ℕ
four = 49 ∷ 50 ∷ 51 ∷ 52 ∷ []

abbrev seven : List ℕ
seven = 48 ∷ 48 ∷ 48 ∷ 55 ∷ []

-- 00-07
abbrev seven_grouped : List ℕ
seven_grouped = 48 ∷ 48 ∷ 45 ∷ 48 ∷ 55 ∷ []

-- D2 04 00 00 and 07 00 00 00
abbrev random_1234 : List ℕ
random_1234 = 0xD2 ∷ 4 ∷ 0 ∷ 0 ∷ []

abbrev random_0007 : List ℕ
random_0007 = 7 ∷ 0 ∷ 0 ∷ 0 ∷ []

abbrev pub one_run : List Call
one_run = start 1_000 random_1234 ∷ submit 2_000 seven ∷ submit 3_000 four ∷ []

abbrev pub other_run : List Call
other_run = start 1_000 random_0007 ∷ submit 2_000 four ∷ submit 3_000 seven_grouped ∷ []

-- what a session of the cases' gate shows
abbrev shows : Status → ℕ → ℕ → SessionReply
shows status tries seconds = record { method = 0; kind = CodeEntry; status = status; length = 4; tries = tries; seconds = seconds; cooldown = 0 }

-- and the whole cooldown is ahead
abbrev cooling : SessionReply → SessionReply
cooling r = record { method = r.method; kind = r.kind; status = r.status; length = r.length; tries = r.tries; seconds = r.seconds; cooldown = 30 }

-- both runs answer: it runs; 10 with two tries left; it succeeded, and the tries are full
abbrev pub answers : List PackedReply
answers = plain (Answer.Session (shows InProgress 3 60)) ∷ plain (Answer.WrongCode (shows InProgress 2 59)) ∷ plain (Answer.Session (shows Succeeded 3 0)) ∷ []

abbrev pub answers_of : List Given → List PackedReply
answers_of os = map (λ (o : Given). o.answer) os

-- ---- a run that meets the bound: three wrong codes, the end of the cooldown, and a start

abbrev pub three : List Call
three = start 1_000 random_1234 ∷ submit 3_000 seven ∷ submit 4_000 seven ∷ submit 5_000 seven ∷ start 35_000 random_1234 ∷ []

-- before the first start; the session with three wrong codes of three tries; the session that the last start began
abbrev pub tallies : List Tally
tallies = record { tries = 3; wrong = 0 } ∷ record { tries = 3; wrong = 3 } ∷ record { tries = 3; wrong = 0 } ∷ []

-- ---- the same with two phones (W-206): A types a wrong code and cancels, B types two; the last one fails B's session, and the next start
-- shows three tries

abbrev other : List ℕ
other = 0xC3 ∷ []

abbrev pub two_phones : List Call
two_phones =
    start 1_000 random_1234 ∷ submit 2_000 seven ∷ on_session (Gate.cancel_validation phone 3_000) ∷ start_validation other method 4_000 random_1234
    ∷ submit_validation_code other seven 5_000 ∷ submit_validation_code other seven 6_000 ∷ start 36_000 random_1234 ∷ []

-- up to the refill by Failed, and from there on
abbrev pub refill_tallies : List Tally
refill_tallies = record { tries = 3; wrong = 3 } ∷ record { tries = 3; wrong = 0 } ∷ []

abbrev pub two_phones_answers : List PackedReply
two_phones_answers =
    plain (Answer.Session (shows InProgress 3 60)) ∷ plain (Answer.WrongCode (shows InProgress 2 59)) ∷ plain Answer.Done ∷ plain (Answer.Session (shows InProgress 2 60))
    ∷ plain (Answer.WrongCode (shows InProgress 1 59)) ∷ plain (Answer.WrongCode (cooling (shows Failed 3 0))) ∷ plain (Answer.Session (shows InProgress 3 60)) ∷ []

pub record Examples : Type 0 where
  pub two : TwoRuns ready ready one_run other_run
  pub one_code : (after ready (start 1_000 random_1234)).code ≡ padded 9 0 four
  pub other_code : (after ready (start 1_000 random_0007)).code ≡ padded 9 0 seven
  pub one_answers : answers_of (run ready one_run) ≡ answers
  pub other_answers : answers_of (run ready other_run) ≡ answers
  -- two first gates that are alike and differ
  pub firsts : AlikeGates (after ready (start 1_000 random_1234)) (after ready (start 1_000 random_0007))
  pub tallied : sessions 3 0 ready three ≡ tallies
  pub refills : parts Refills.refills 3 0 ready two_phones ≡ refill_tallies
  pub shared : answers_of (run ready two_phones) ≡ two_phones_answers

pub examples : Examples
unfolding padded same_bytes contains id_bytes id_in_range id_of ids_in joined list_in_range list_of phones_of some_of too_long digits draw_limit drawn first_below group decode encode encode_all Utf8.within is_text right trim trim_front trimmed white Range.within Range.settings_fit all_of Range.printable Range.method_fits Range.all_fit Range.methods_in Range.methods_fit Running.method_at Running.clean_method Running.in_progress Running.code_in_progress Range.tries_fit Range.session_fits Range.window_fits Range.core_fits Range.save_fits Range.queue_fits Range.in_range Save.no_save View.view View.car_in_range View.store_in_range cars_of store_of twice Store.phones_for Replies.reply Replies.notified Replies.finish Policy.fingerprint_confirmed Policy.is_identified Store.is_full Times.saturating_add Times.seconds_to Session.seconds_of Session.reply_of Session.ended_as Session.is_of Session.lost_read_write Session.note_at Session.cannot_go_on Session.lapse_of Session.place_from Session.place_of checked Validation.end_session Validation.runs_for Validation.start_checks Validation.new_session Validation.begin Validation.start_at Validation.start Validation.refilled Validation.succeeded_core Validation.succeed Validation.failed_core Validation.tried_core Validation.wrong Validation.right_code Validation.judge Validation.submitted Validation.submit New.new_methods New.new_core Gate.saying Gate.served Gate.says Gate.left Gate.gives Gate.step begins judged_wrong blanked hide_gate code_runs Refills.refills Validation.cancel Gate.ended is_digit is_separator begins_digit is_dropped ungrouped_from ungrouped
examples = record {
  two =
      next (starts phone method 1_000 random_1234 random_0007 (λ d. (refl, refl)))
      (next (submits phone 2_000 seven four (λ f. refl) (λ x j. refl))
      (next (submits phone 3_000 four seven_grouped (λ f. refl) (λ x j. refl)) end));
  one_code = refl;
  other_code = refl;
  one_answers = refl;
  other_answers = refl;
  firsts = (refl, λ r. absurd (true≢false r));
  tallied = refl;
  refills = refl;
  shared = refl;
}

-- ---- hiding hides the digits only

-- challenges that look alike: all is equal but the first `length` bytes of the code
pub record SameChallenge (c d : Challenge) : Type 0 where
  pub running : c.running ≡ d.running
  pub session : c.session ≡ d.session
  pub method : c.method ≡ d.method
  pub digits : c.length ≡ d.length
  pub long : length c.code ≡ length d.code
  pub past : drop c.length c.code ≡ drop c.length d.code

same_challenge : (c d : Challenge) → hide_challenge c ≡ hide_challenge d → SameChallenge c d
unfolding hide_challenge
same_challenge c d e =
    let n : c.length ≡ d.length = λ i. (e i).length in
    let b : blanked c.length c.code ≡ blanked c.length d.code = (λ i. (e i).code) ∙ sym (ap (λ (k : ℕ). blanked k d.code) n) in
    record {
      running = λ i. (e i).running;
      session = λ i. (e i).session;
      method = λ i. (e i).method;
      digits = n;
      long = same_length c.length c.code d.code b;
      past = same_past c.length c.code d.code b;
    }

-- the only reply that holds digits
abbrev pub is_challenge : PackedReply → Bool
is_challenge (plain a) = false
is_challenge (Query.approval a) = false
is_challenge (Query.access a) = false
is_challenge (Query.phones a ps) = false
is_challenge (Query.trust a) = false
is_challenge (Query.peer a) = false
is_challenge (Query.phone_access a) = false
is_challenge (Query.methods a) = false
is_challenge (Query.challenge a) = true
is_challenge (Query.saved a) = false
is_challenge (Query.preview a paired store n) = false
is_challenge (Query.report a r) = false

-- any other reply is not hidden, and none is hidden as one of another kind
any_other : (r : PackedReply) → (is_challenge r ≡ false → hide_reply r ≡ r) × (is_challenge (hide_reply r) ≡ is_challenge r)
any_other (plain a) = (λ e. refl, refl)
any_other (Query.approval a) = (λ e. refl, refl)
any_other (Query.access a) = (λ e. refl, refl)
any_other (Query.phones a ps) = (λ e. refl, refl)
any_other (Query.trust a) = (λ e. refl, refl)
any_other (Query.peer a) = (λ e. refl, refl)
any_other (Query.phone_access a) = (λ e. refl, refl)
any_other (Query.methods a) = (λ e. refl, refl)
any_other (Query.challenge a) = (λ e. absurd (true≢false e), refl)
any_other (Query.saved a) = (λ e. refl, refl)
any_other (Query.preview a paired store n) = (λ e. refl, refl)
any_other (Query.report a r) = (λ e. refl, refl)

-- what two outcomes that look alike have in common
pub record OnlyDigits (o p : Given) : Type 0 where
  pub numbered : o.numbered ≡ p.numbered
  pub answer : is_challenge o.answer ≡ false → o.answer ≡ p.answer
  pub challenge_answer : (a b : ChallengeAnswer) → o.answer ≡ Query.challenge a → p.answer ≡ Query.challenge b → (a.answer ≡ b.answer) × SameChallenge a.challenge b.challenge
  pub access : o.signals.access ≡ p.signals.access
  pub availability : o.signals.availability ≡ p.signals.availability
  pub readonly : o.signals.readonly ≡ p.signals.readonly
  pub approval : o.signals.approval ≡ p.signals.approval
  pub validations : o.signals.validations ≡ p.signals.validations
  pub sent : o.signals.challenge.sent ≡ p.signals.challenge.sent
  pub challenge : SameChallenge o.signals.challenge.challenge p.signals.challenge.challenge
  pub lent : o.lent ≡ p.lent
  pub core : o.gate.core ≡ p.gate.core
  pub phones : o.gate.phones ≡ p.gate.phones
  pub save : o.gate.save ≡ p.gate.save
  pub queue : o.gate.queue ≡ p.gate.queue
  pub long : length o.gate.code ≡ length p.gate.code
  pub past : drop o.gate.core.settings.digits o.gate.code ≡ drop o.gate.core.settings.digits p.gate.code

same_answer : (r s : PackedReply) → hide_reply r ≡ hide_reply s → is_challenge r ≡ false → r ≡ s
same_answer r s e k =
    let m : is_challenge s ≡ false = sym (any_other s).1 ∙ sym (ap is_challenge e) ∙ (any_other r).1 ∙ k in
    sym ((any_other r).0 k) ∙ e ∙ (any_other s).0 m

same_challenge_answer : (a b : ChallengeAnswer) → hide_reply (Query.challenge a) ≡ hide_reply (Query.challenge b) → (a.answer ≡ b.answer) × SameChallenge a.challenge b.challenge
same_challenge_answer a b e =
    let f : ◌≡◌ {A = ChallengeAnswer} (record { answer = a.answer; challenge = hide_challenge a.challenge }) (record { answer = b.answer; challenge = hide_challenge b.challenge }) = cc in
    (λ i. (f i).answer, same_challenge a.challenge b.challenge (λ i. (f i).challenge))

pub only_digits : (o p : Given) → seen o ≡ seen p → OnlyDigits o p
unfolding seen hide_gate hide_signals
only_digits o p e =
    let c : o.gate.core ≡ p.gate.core = λ i. (e i).gate.core in
    let n = o.gate.core.settings.digits in
    let b : blanked n o.gate.code ≡ blanked n p.gate.code = (λ i. (e i).gate.code) ∙ sym (ap (λ (x : Core). blanked x.settings.digits p.gate.code) c) in
    record {
      numbered = λ i. (e i).numbered;
      answer = same_answer o.answer p.answer (λ i. (e i).answer);
      challenge_answer = λ a b x y. same_challenge_answer a b (ap hide_reply (sym x) ∙ (λ i. (e i).answer) ∙ ap hide_reply y);
      access = λ i. (e i).signals.access;
      availability = λ i. (e i).signals.availability;
      readonly = λ i. (e i).signals.readonly;
      approval = λ i. (e i).signals.approval;
      validations = λ i. (e i).signals.validations;
      sent = λ i. (e i).signals.challenge.sent;
      challenge = same_challenge _ _ (λ i. (e i).signals.challenge.challenge);
      lent = λ i. (e i).lent;
      core = c;
      phones = λ i. (e i).gate.phones;
      save = λ i. (e i).gate.save;
      queue = λ i. (e i).gate.queue;
      long = same_length n o.gate.code p.gate.code b;
      past = same_past n o.gate.code p.gate.code b;
    }
