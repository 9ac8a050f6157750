-- Signals, and what an operation on a core says.
use Rattle.std.specs.Prelude.{Bool, true, false, List, ℕ, replicate}
use Rattle.saved_record.specs.declared.SavedRecord.{SavedRecord}
use Rattle.saved_record.specs.SavedRecord.{no_record}
use Rattle.state.specs.declared.Car.{Car}
use Rattle.state.specs.declared.Core.{Core}
use Rattle.state.specs.declared.Answer.{Answer}
use Rattle.state.specs.declared.Answer.TheVariants.{Yes, No}
use Rattle.state.specs.declared.ReadOnlySignal.{ReadOnlySignal}
use Rattle.state.specs.declared.ApprovalSignal.{ApprovalSignal}
use Rattle.state.specs.declared.ValidationsSignal.{ValidationsSignal}
use Rattle.state.specs.declared.Challenge.{Challenge}
use Rattle.state.specs.declared.ChallengeSignal.{ChallengeSignal}
use Rattle.state.specs.declared.Raised.{Raised}
use Rattle.state.specs.declared.Signals.{Signals}
use Rattle.state.specs.declared.Mark.{Mark}
use Rattle.state.specs.declared.Mark.TheVariants.{Blank, Kept, Fresh}
use Rattle.state.specs.declared.Said.{Said}

-- ---- channels: A CAN_ACCESS_CHANGED, V the availability's CHANGED, R CAN_READ_ONLY_WATCH, P APPROVAL_TO_STORE,
-- S VALIDATIONS_TO_STORE, C CHALLENGE

-- no digest: erase
abbrev pub no_car : Car
no_car = record { known = false; digest = replicate 32 0 }

-- CHALLENGE while no session is in progress
abbrev pub no_challenge : Challenge
no_challenge = record { running = false; session = 0; method = 0; length = 0; code = replicate 9 0 }

-- a channel on which nothing was sent, all zeros
abbrev pub no_r : ReadOnlySignal
no_r = record { sent = false; value = false }

abbrev pub no_p : ApprovalSignal
no_p = record { sent = false; car = no_car }

abbrev pub no_s : ValidationsSignal
no_s = record { sent = false; stored = no_record }

abbrev pub no_c : ChallengeSignal
no_c = record { sent = false; challenge = no_challenge }

-- a channel on which a value was sent
abbrev pub sent_r : Bool → ReadOnlySignal
sent_r v = record { sent = true; value = v }

abbrev pub sent_p : Car → ApprovalSignal
sent_p car = record { sent = true; car = car }

abbrev pub sent_s : SavedRecord → ValidationsSignal
sent_s r = record { sent = true; stored = r }

abbrev pub sent_c : Challenge → ChallengeSignal
sent_c c = record { sent = true; challenge = c }

-- ---- what an operation sends, by the source's functions. S is sent by the call, with the record of the store that it leaves

unfoldable pub nothing_raised : Raised
nothing_raised = record { access = false; availability = false; readonly = no_r; approval = no_p; challenge = no_c }

-- notify_phone_access_changed: A V. With S it is store_validations
unfoldable pub phone_access_changed : Raised
phone_access_changed = record { access = true; availability = true; readonly = no_r; approval = no_p; challenge = no_c }

-- notify_can_read_only_changed: R A, with the read-only state after the change
unfoldable pub read_only_changed : Bool → Raised
read_only_changed v = record { access = true; availability = false; readonly = sent_r v; approval = no_p; challenge = no_c }

-- a changed approval: P R A
unfoldable pub approval_changed : Car → Bool → Raised
approval_changed car v = record { access = true; availability = false; readonly = sent_r v; approval = sent_p car; challenge = no_c }

-- a challenge that started or ended, and after_change: C A V
unfoldable pub challenge_changed : Challenge → Raised
challenge_changed c = record { access = true; availability = true; readonly = no_r; approval = no_p; challenge = sent_c c }

-- ---- what a call sends

-- every channel: S beside what the operation sends
abbrev pub sending : Raised → ValidationsSignal → Signals
sending r s = record { access = r.access; availability = r.availability; readonly = r.readonly; approval = r.approval; validations = s; challenge = r.challenge }

-- a call that raises nothing
unfoldable pub no_signals : Signals
no_signals = record { access = false; availability = false; readonly = no_r; approval = no_p; validations = no_s; challenge = no_c }

-- ---- what an operation says

abbrev pub yes_no : Bool → Answer
yes_no true = Yes
yes_no false = No

-- nothing changes and nothing is raised, as by a refusal (01, Replies): the core is the one that was lent
unfoldable pub leave : Core → Answer → Said
leave c a = record { answer = a; raised = nothing_raised; shows = Blank; core = c; code = Kept }

-- nothing is raised, and the core is left as it is given here, as by a host note
unfoldable pub quiet : Core → Answer → Said
quiet c a = record { answer = a; raised = nothing_raised; shows = Blank; core = c; code = Kept }

-- the digits stay, if there are any
unfoldable pub reply : Core → Answer → Raised → Said
reply c a s = record { answer = a; raised = s; shows = Blank; core = c; code = Kept }

-- notify_phone_access_changed, with an answer
unfoldable pub notified : Core → Answer → Said
notified c a = reply c a phone_access_changed

-- end_session: session.code = None
unfoldable pub finish : Core → Answer → Raised → Said
finish c a s = record { answer = a; raised = s; shows = Blank; core = c; code = Blank }

-- ---- the digits are put in their places

-- where there are no digits, nine zeros
abbrev pub no_code : List ℕ
no_code = replicate 9 0

-- the digits at a mark: none, those that the gate held, those that this call drew
abbrev pub code_at : List ℕ → List ℕ → Mark → List ℕ
code_at held drawn Blank = no_code
code_at held drawn Kept = held
code_at held drawn Fresh = drawn

-- the challenge with its digits
abbrev pub showing : List ℕ → Raised → Raised
showing digits r = record {
  access = r.access;
  availability = r.availability;
  readonly = r.readonly;
  approval = r.approval;
  challenge = record {
    sent = r.challenge.sent;
    challenge = record {
      running = r.challenge.challenge.running;
      session = r.challenge.challenge.session;
      method = r.challenge.challenge.method;
      length = r.challenge.challenge.length;
      code = digits;
    };
  };
}
