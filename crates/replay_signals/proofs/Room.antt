-- The room that the signals of a call take.
use Rattle.std.proofs.Common.{Bool, List, ℕ, ◌+◌, ◌≤◌, le_of_eq, arith, eqb, lit≤, length, rules}
use mir.Val.{Val}
use Rattle.ascii.specs.Ascii.{ascii}
use Rattle.state.specs.Replies.{no_signals}
use Rattle.state.specs.declared.ApprovalSignal.{ApprovalSignal}
use Rattle.state.specs.declared.Challenge.{Challenge}
use Rattle.state.specs.declared.ChallengeSignal.{ChallengeSignal}
use Rattle.state.specs.declared.ReadOnlySignal.{ReadOnlySignal}
use Rattle.state.specs.declared.Signals.{Signals}
use Rattle.state.specs.declared.ValidationsSignal.{ValidationsSignal}
use Rattle.state.specs.contracts.ApprovalSignal as ApprovalSignal
use Rattle.state.specs.contracts.Challenge as Challenge
use Rattle.state.specs.contracts.ChallengeSignal as ChallengeSignal
use Rattle.state.specs.contracts.Signals as Signals
use Rattle.state.specs.contracts.ValidationsSignal as ValidationsSignal
use Rattle.replay_page.specs.Room.{Within}
use Rattle.replay_lines.proofs.AnswerRoom.{Owned}
use Rattle.replay_page.proofs.Room.{◌⊕◌, upto, either, same, text_in, number_in_lem, bytes_in_lem, yes_no_in, item_in, digits_in}
use Rattle.replay_lines.proofs.AnswerRoom.{saved_in}
use Rattle.replay_signals.specs.Signals.{next, raised, read_only, approval, validations, running, challenge, ended, listed, signals}

next_in : (from : ℕ) (name : List ℕ) → Within (1 + length name) (next from name)
unfolding next
next_in from name = record {
  fits = λ p r. (either (eqb p.place from) (upto (1 + length name) (omega arith) (text_in name)) (text_in (ascii ",") ⊕ text_in name)).fits p r;
}

raised_in : (from : ℕ) (sent : Bool) (name : List ℕ) → Within (1 + length name) (raised from sent name)
unfolding raised
raised_in from sent name = either sent (next_in from name) (same (1 + length name))

read_only_in : (from : ℕ) (s : ReadOnlySignal) → Within 6 (read_only from s)
unfolding read_only
read_only_in from s = either s.sent (next_in from (ascii "R:") ⊕ yes_no_in s.value) (same 6)

approval_in : (from : ℕ) (s : ApprovalSignal) (vs : List Val) → Owned ApprovalSignal.the_field s vs → Within 67 (approval from s)
unfolding approval
approval_in from s vs h =
    let far : length s.car.digest ≤ 32 = le_of_eq (search rules) in
    either s.sent
    (either s.car.known (next_in from (ascii "P:") ⊕ bytes_in_lem s.car.digest 32 far) (upto 67 (lit≤ tt) (next_in from (ascii "P:") ⊕ text_in (ascii "erase"))))
    (same 67)

validations_in : (from : ℕ) (s : ValidationsSignal) (vs : List Val) → Owned ValidationsSignal.the_field s vs → Within 8719 (validations from s)
unfolding validations
validations_in from s vs h =
    either s.sent
    (either (eqb s.stored.len 0) (upto 8719 (lit≤ tt) (next_in from (ascii "S:") ⊕ text_in (ascii "erase"))) (next_in from (ascii "S:") ⊕ saved_in s.stored _ h.1.1.0))
    (same 8719)

running_in : (c : Challenge) (vs : List Val) → Owned Challenge.the_field c vs → Within 60 (running c)
unfolding running
running_in c vs h =
    number_in_lem c.session (omega arith) ⊕ item_in (ascii "/") c.method (omega arith) ⊕ text_in (ascii "/") ⊕ digits_in c.code c.length (le_of_eq (search rules))

challenge_in : (from : ℕ) (s : ChallengeSignal) (vs : List Val) → Owned ChallengeSignal.the_field s vs → Within 63 (challenge from s)
unfolding challenge
challenge_in from s vs h =
    either s.sent
    (either s.challenge.running (next_in from (ascii "C:") ⊕ running_in s.challenge _ h.1.1.1.0) (upto 63 (lit≤ tt) (next_in from (ascii "C:") ⊕ text_in (ascii "none"))))
    (same 63)

ended_in : (from : ℕ) → Within 4 (ended from)
unfolding ended
ended_in from = record { fits = λ p r. (either (eqb p.place from) (text_in (ascii "none")) (same 4)).fits p r }

listed_in : (from : ℕ) (s : Signals) (vs : List Val) → Owned Signals.the_field s vs → Within 8863 (listed from s)
unfolding listed
listed_in from s vs h =
    raised_in from s.access (ascii "A") ⊕ raised_in from s.availability (ascii "V") ⊕ read_only_in from s.readonly
    ⊕ approval_in from s.approval _ h.1.1.1.1.1.1.0 ⊕ validations_in from s.validations _ h.1.1.0
    ⊕ challenge_in from s.challenge _ h.1.1.1.1.1.1.1.0 ⊕ ended_in from

pub signals_in : (s : Signals) (vs : List Val) → Owned Signals.the_field s vs → Within 8872 (signals s)
unfolding signals
signals_in s vs h = record { fits = λ p r. (text_in (ascii " signals=") ⊕ listed_in _ s vs h).fits p r }

pub no_signals_in : Within 13 (signals no_signals)
unfolding signals listed raised read_only approval validations challenge no_signals
no_signals_in = record { fits = λ p r. (text_in (ascii " signals=") ⊕ ended_in _).fits p r }
