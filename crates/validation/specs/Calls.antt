-- The calls of a validation session (validation.rs). None is given the digits: start is told whether random bytes were
-- lent and whether the draw gives a code, submit whether the typed bytes are text and right. None is given the lists: submit and
-- complete are told whether this car's list is full without the session's phone.
use Rattle.std.specs.Prelude.{Bool, true, false, cond, not, ◌&&◌, List, [], ◌∷◌, ℕ, ◌-◌, Option, Some, None, eqb, ltb, leb, length, replicate}
use Rattle.phones.specs.Phones.{id_of}
use Rattle.state.specs.declared.Kind.{Kind}
use Rattle.state.specs.declared.Kind.TheVariants.{CodeEntry, InCarAction}
use Rattle.state.specs.declared.Status.{Status}
use Rattle.state.specs.declared.Status.TheVariants.{InProgress, Succeeded, Failed, Cancelled}
use Rattle.state.specs.declared.Session.{Session}
use Rattle.state.specs.declared.Validation.{Validation}
use Rattle.state.specs.declared.Core.{Core}
use Rattle.state.specs.declared.Answer.{Answer}
use Rattle.state.specs.declared.Answer.TheVariants.{Done, Yes, No, UnknownMethod, CarNotIdentified, CoolingDown, OtherPhoneSession, MethodUnavailable, MethodNotAvailableNow, NoRandomSource, NoSession, NotCodeEntry, WrongCode, IdTooLong, RandomSpent, NotText, ListFull}
use Rattle.state.specs.declared.Challenge.{Challenge}
use Rattle.state.specs.declared.Mark.{Mark}
use Rattle.state.specs.declared.Mark.TheVariants.{Blank, Fresh}
use Rattle.state.specs.declared.Said.{Said}
use Rattle.state.specs.declared.Ended.{Ended}
use Rattle.state.specs.Parts.{with_validation, with_session, with_cooldown, with_next, with_tries}
use Rattle.state.specs.Running.{is_code, method_at, in_progress}
use Rattle.state.specs.Replies.{no_challenge, challenge_changed, leave, notified, finish}
use Rattle.state.specs.Checks.{Check, ◌refuses◌, checked, unmet}
use Rattle.policy.specs.Policy.{fingerprint_confirmed}
use Rattle.session_times.specs.Times.{saturating_add, seconds_to, next_number}
use Rattle.session.specs.Session.{reply_of, ended_as, is_of, lost_read_write, note_at, lapse_of, place_of}

-- ---- start

-- the refusals before the draw
unfoldable pub start_checks : Core → List ℕ → ℕ → ℕ → List Check
start_checks c phone at clock =
    (ltb 32 (length phone) refuses IdTooLong) ∷  -- 18
    (leb c.methods.count at refuses UnknownMethod) ∷  -- 1
    (not (fingerprint_confirmed c.policy.identity) refuses CarNotIdentified) ∷  -- 2
    (ltb clock c.validation.cooldown_until refuses CoolingDown (seconds_to c.validation.cooldown_until clock)) ∷  -- 3
    (in_progress c.validation.session && not (is_of c.validation.session phone) refuses OtherPhoneSession) ∷  -- 4
    (lost_read_write c (method_at c.methods at) refuses MethodUnavailable) ∷  -- 5
    (not (note_at c.methods.available at) refuses MethodNotAvailableNow) ∷ []  -- 6

-- the tries left are those of the gate, and a start leaves them (W-206)
unfoldable pub new_session : Core → List ℕ → ℕ → ℕ → Session
new_session c phone at clock = record {
  present = true;
  number = c.validation.next;
  phone = id_of phone;
  method = at;
  car = c.policy.identity.car.digest;
  deadline = saturating_add clock c.settings.session;
  status = InProgress;
  ended = 0;
}

-- the challenge of a new session; its digits, if any, are put in by the mark
unfoldable pub challenge_for : Core → ℕ → Kind → Challenge
challenge_for c at kind = record {
  running = true;
  session = c.validation.next;
  method = at;
  length = cond (is_code kind) c.settings.digits 0;
  code = replicate 9 0;
}

-- a session begins, in the place of whatever session is stored
unfoldable pub begin : Core → List ℕ → ℕ → ℕ → Mark → Said
begin c phone at clock mark =
    let s = new_session c phone at clock in
    let c' = with_validation c (with_next (with_session c.validation s) (next_number c.validation.next)) in
    record {
      answer = Answer.Session (reply_of c' s clock);
      raised = challenge_changed (challenge_for c at (method_at c.methods at).kind);
      shows = mark;
      core = c';
      code = mark;
    }

-- only code entry draws
abbrev pub start_as : Core → List ℕ → ℕ → ℕ → Bool → Bool → Kind → Said
start_as c phone at clock lent gives InCarAction = begin c phone at clock Blank
start_as c phone at clock lent gives CodeEntry =
    checked (leave c)
    ((not lent refuses NoRandomSource) ∷  -- 7
    (not gives refuses RandomSpent) ∷ [])  -- 19
    (begin c phone at clock Fresh)

unfoldable pub start_at : Core → List ℕ → ℕ → ℕ → Bool → Bool → Said
start_at c phone at clock lent gives =
    checked (leave c) (start_checks c phone at clock) (start_as c phone at clock lent gives (method_at c.methods at).kind)

-- start_validation
unfoldable pub start : Core → List ℕ → List ℕ → ℕ → Bool → Bool → Said
start c phone method clock lent gives = start_at c phone (place_of c.methods method) clock lent gives

-- a start comes to its draw: its method is CodeEntry and nothing before 7 refuses it
unfoldable pub draws : Core → List ℕ → List ℕ → ℕ → Bool
draws c phone method clock =
    unmet (start_checks c phone (place_of c.methods method) clock) && is_code (method_at c.methods (place_of c.methods method)).kind

-- ---- tick

abbrev pub session_is : Core → Session → Core
session_is c s = with_validation c (with_session c.validation s)

-- after_change: the running session ended
unfoldable pub end_session : Core → Answer → Status → ℕ → Said
end_session c a status clock = finish (session_is c (ended_as c.validation.session status clock)) a (challenge_changed no_challenge)

abbrev pub ticked_as : Core → ℕ → Option Status → Said
ticked_as c clock None = leave c Done
ticked_as c clock (Some status) = end_session c Done status clock

-- tick_validation
unfoldable pub tick : Core → ℕ → Said
tick c clock = ticked_as c clock (lapse_of c clock)

-- ---- a call by which a session may succeed

-- no phone is validated
abbrev pub unvalidated : Said → Ended
unvalidated o = record { said = o; validates = false }

-- a call that ticks first: where the tick ends the session it answers a, and else goes on
abbrev pub ticking : Core → ℕ → Answer → Ended → Option Status → Ended
ticking c clock a o None = o
ticking c clock a o (Some status) = unvalidated (end_session c a status clock)

-- the session runs and is this phone's
unfoldable pub runs_for : Session → List ℕ → Bool
runs_for s phone = in_progress s && is_of s phone

-- the session ends so that the tries left become full (W-206): it succeeds, or it fails
unfoldable pub refilled : Core → Status → ℕ → Validation
refilled c status clock = with_tries (with_session c.validation (ended_as c.validation.session status clock)) c.settings.tries

-- succeed, and the session's phone is to be validated for its car
unfoldable pub succeeded_core : Core → ℕ → Core
succeeded_core c clock = with_validation c (refilled c Succeeded clock)

unfoldable pub succeed : Core → Answer → ℕ → Ended
succeed c a clock = record { said = finish (succeeded_core c clock) a (challenge_changed no_challenge); validates = true }

-- ---- submit

-- the last try: Failed, the tries are full and the cooldown starts, all before the reply is made
unfoldable pub failed_core : Core → ℕ → Core
failed_core c clock = with_validation c (with_cooldown (refilled c Failed clock) (saturating_add clock c.settings.cooldown))

-- one try fewer
unfoldable pub tried_core : Core → Core
tried_core c = with_validation c (with_tries c.validation (c.validation.tries - 1))

abbrev pub session_answer : Core → ℕ → Answer
session_answer c clock = Answer.Session (reply_of c c.validation.session clock)

abbrev pub wrong_answer : Core → ℕ → Answer
wrong_answer c clock = WrongCode (reply_of c c.validation.session clock)

unfoldable pub wrong : Core → ℕ → Said
wrong c clock =
    cond (ltb 1 c.validation.tries)
    (notified (tried_core c) (wrong_answer (tried_core c) clock))
    (finish (failed_core c clock) (wrong_answer (failed_core c clock) clock) (challenge_changed no_challenge))

-- `full`: the session's car has no place for its phone (21)
unfoldable pub right_code : Core → ℕ → Bool → Ended
right_code c clock full =
    cond full (unvalidated (notified c ListFull)) (succeed c (session_answer (succeeded_core c clock) clock) clock)

-- the code is judged
unfoldable pub judge : Core → ℕ → Bool → Bool → Ended
judge c clock right full = cond right (right_code c clock full) (unvalidated (wrong c clock))

abbrev pub judge_as : Core → ℕ → Bool → Bool → Kind → Ended
judge_as c clock right full InCarAction = unvalidated (notified c NotCodeEntry)
judge_as c clock right full CodeEntry = judge c clock right full

-- the tick left the session as it was
unfoldable pub submitted : Core → List ℕ → ℕ → Bool → Bool → Ended
submitted c phone clock right full =
    cond (runs_for c.validation.session phone)
    (judge_as c clock right full (method_at c.methods c.validation.session.method).kind)
    (unvalidated (notified c NoSession))

-- submit_validation_code
unfoldable pub submit : Core → List ℕ → ℕ → Bool → Bool → Bool → Ended
submit c phone clock text right full =
    checked (λ (a : Answer). unvalidated (leave c a))
    ((not text refuses NotText) ∷ [])  -- 20
    (ticking c clock NoSession (submitted c phone clock right full) (lapse_of c clock))

-- ---- cancel, complete

-- cancel_validation
unfoldable pub cancel : Core → List ℕ → ℕ → Said
cancel c phone clock =
    checked (leave c)
    ((not (runs_for c.validation.session phone) refuses NoSession) ∷ [])  -- 8
    (end_session c Done Cancelled clock)

-- this session runs, and it is an in-car action
unfoldable pub is_action : Core → ℕ → Bool
is_action c number =
    in_progress c.validation.session
    && eqb c.validation.session.number number
    && not (is_code (method_at c.methods c.validation.session.method).kind)

unfoldable pub completed : Core → ℕ → ℕ → Bool → Ended
completed c number clock full =
    cond (is_action c number) (cond full (unvalidated (leave c ListFull)) (succeed c Yes clock)) (unvalidated (leave c No))

-- complete_validation_action_at
unfoldable pub complete : Core → ℕ → ℕ → Bool → Ended
complete c number clock full = ticking c clock No (completed c number clock full) (lapse_of c clock)
