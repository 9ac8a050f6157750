-- What each query answers. 25 comes first: then the rest of the answer is zeros, no and none, but for read-only, which is yes:
-- an unmet condition always reads as read-only (can_access.rs).
use Rattle.std.specs.Prelude.{Bool, true, false, cond, not, ◌&&◌, ◌||◌, List, [], ◌∷◌, map, ℕ, suc, ◌-◌, eqb, ltb, length, take}
use Rattle.arrays.specs.Arrays.{padded}
use Rattle.phones.specs.Phones.{id_bytes, id_of}
use Rattle.state.specs.declared.Method.{Method}
use Rattle.state.specs.declared.Policy.{Policy}
use Rattle.state.specs.declared.Challenge.{Challenge}
use Rattle.state.specs.declared.Core.{Core}
use Rattle.state.specs.declared.Answer.{Answer}
use Rattle.state.specs.declared.Answer.TheVariants.{Done, Nothing, BadSettings}
use Rattle.state.specs.Running.{is_running, in_progress, code_in_progress, no_method, clean_method}
use Rattle.state.specs.View.{Lists, View}
use Rattle.range.specs.Range.{in_range}
use Rattle.saved_record.specs.SavedRecord.{no_record}
use Rattle.state.specs.Replies.{no_challenge}
use Rattle.policy.specs.declared.Approval.TheVariants.{NotApproved}
use Rattle.policy.specs.Policy.{fingerprint_confirmed, dev_lock, dev_unlocked, is_read_only, approval_of}
use Rattle.phone_trust.specs.declared.Trust.TheVariants.{NotBonded}
use Rattle.phone_trust.specs.Trust.{is_validated, car_has_some_validated, trust_of}
use Rattle.validations.specs.Store.{record_for}
use Rattle.session.specs.Session.{reply_of, is_of, lost_read_write, note_at}
use Rattle.answers.specs.declared.ApprovalAnswer.{ApprovalAnswer}
use Rattle.answers.specs.declared.AccessAnswer.{AccessAnswer}
use Rattle.answers.specs.declared.TrustAnswer.{TrustAnswer}
use Rattle.answers.specs.declared.PeerAnswer.{PeerAnswer}
use Rattle.answers.specs.declared.PhoneAccessAnswer.{PhoneAccessAnswer}
use Rattle.answers.specs.declared.MethodsAnswer.{MethodsAnswer}
use Rattle.answers.specs.declared.ChallengeAnswer.{ChallengeAnswer}
use Rattle.answers.specs.declared.RecordAnswer.{RecordAnswer}

-- ---- yes or no, a number

unfoldable pub if_in_range : View → Answer → Answer
if_in_range v a = cond (in_range v) a BadSettings

-- ---- the policy

unfoldable pub approval_answer : View → ApprovalAnswer
approval_answer v =
    cond (in_range v)
    (record { answer = Done; approval = approval_of v.core.policy.identity v.core.policy.access })
    (record { answer = BadSettings; approval = NotApproved })

-- can_access_state
abbrev pub access_state_of : Policy → AccessAnswer
access_state_of p = record {
  answer = Done;
  platform = p.identity.confirmed;
  car = fingerprint_confirmed p.identity;
  approval = approval_of p.identity p.access;
  devlock = dev_lock p.access;
  unlocked = dev_unlocked p.access;
  logging = p.buses.logging;
  readonly = is_read_only p;
}

abbrev pub no_access_state : AccessAnswer
no_access_state = record { answer = BadSettings; platform = false; car = false; approval = NotApproved; devlock = false; unlocked = false; logging = false; readonly = true }

unfoldable pub access_answer : View → AccessAnswer
access_answer v = cond (in_range v) (access_state_of v.core.policy) no_access_state

-- ---- phones

unfoldable pub trust_answer : View → List ℕ → TrustAnswer
trust_answer v id =
    cond (in_range v)
    (record { answer = Done; trust = trust_of v.core.policy.identity v.lists id })
    (record { answer = BadSettings; trust = NotBonded })

-- encode_phone_validations
unfoldable pub record_answer : View → RecordAnswer
record_answer v =
    cond (in_range v) (record { answer = Done; stored = record_for v.lists.store }) (record { answer = BadSettings; stored = no_record })

-- ---- the connected phone: none exactly if its id is empty

abbrev pub no_peer : Answer → PeerAnswer
no_peer a = record { answer = a; peer = id_of []; validated = false }

abbrev pub peer_of : Core → Lists → PeerAnswer
peer_of c l =
    cond (eqb c.peer.len 0) (no_peer Nothing)
    (record { answer = Done; peer = id_of (id_bytes c.peer); validated = is_validated c.policy.identity l (id_bytes c.peer) })

unfoldable pub peer_answer : View → PeerAnswer
peer_answer v = cond (in_range v) (peer_of v.core v.lists) (no_peer BadSettings)

-- ---- sessions

-- shown while it runs, and less than the result-keep after its end
unfoldable pub is_shown : Core → List ℕ → ℕ → Bool
is_shown c phone clock =
    let s = c.validation.session in
    s.present && is_of s phone && (is_running s.status || ltb (clock - s.ended) c.settings.keep)

-- session_for
unfoldable pub session_shown : Core → List ℕ → ℕ → Answer
session_shown c phone clock =
    cond (is_shown c phone clock) (Answer.Session (reply_of c c.validation.session clock)) Nothing

-- phone_access_state
abbrev pub no_access : Answer → PhoneAccessAnswer
no_access a = record { answer = a; trust = NotBonded; car_has_validated = false; session = Nothing }

abbrev pub phone_access_of : Core → Lists → ℕ → PhoneAccessAnswer
phone_access_of c l clock =
    cond (eqb c.peer.len 0) (no_access Nothing)
    (record {
      answer = Done;
      trust = trust_of c.policy.identity l (id_bytes c.peer);
      car_has_validated = car_has_some_validated c.policy.identity l;
      session = session_shown c (id_bytes c.peer) clock;
    })

unfoldable pub phone_access_answer : View → ℕ → PhoneAccessAnswer
phone_access_answer v clock = cond (in_range v) (phone_access_of v.core v.lists clock) (no_access BadSettings)

-- ---- methods

-- is_method_available
unfoldable pub can_start : Core → ℕ → Method → Bool
can_start c at m = fingerprint_confirmed c.policy.identity && not (lost_read_write c m) && note_at c.methods.available at

-- of each method from place `at` on, whether it can start now
unfoldable pub can_start_from : Core → ℕ → List Method → List Bool
can_start_from c at [] = []
can_start_from c at (m ∷ ms) = can_start c at m ∷ can_start_from c (suc at) ms

abbrev pub methods_of : Answer → List Method → List Bool → MethodsAnswer
methods_of a ms bs = record { answer = a; list = padded 8 no_method ms; available = padded 8 false bs; count = length ms }

-- validation_methods
abbrev pub methods_now : Core → MethodsAnswer
methods_now c =
    let n = c.methods.count in
    methods_of Done (take n (map clean_method c.methods.list)) (can_start_from c 0 (take n c.methods.list))

unfoldable pub methods_answer : View → MethodsAnswer
methods_answer v = cond (in_range v) (methods_now v.core) (methods_of BadSettings [] [])

-- ---- the challenge

-- the first n digits, and zeros
unfoldable pub shown_digits : List ℕ → ℕ → List ℕ
shown_digits held n = padded 9 0 (take n held)

-- the running challenge; its digits are put in where it has any
unfoldable pub challenge_of : Core → List ℕ → Challenge
challenge_of c held =
    let s = c.validation.session in
    let n = cond (code_in_progress c.methods s) c.settings.digits 0 in
    record { running = true; session = s.number; method = s.method; length = n; code = shown_digits held n }

abbrev pub no_challenge_now : Answer → ChallengeAnswer
no_challenge_now a = record { answer = a; challenge = no_challenge }

-- current_validation_challenge
abbrev pub challenge_now : Core → List ℕ → ChallengeAnswer
challenge_now c held =
    cond (in_progress c.validation.session) (record { answer = Done; challenge = challenge_of c held }) (no_challenge_now Nothing)

unfoldable pub challenge_answer : View → ChallengeAnswer
challenge_answer v = cond (in_range v) (challenge_now v.core v.code) (no_challenge_now BadSettings)
