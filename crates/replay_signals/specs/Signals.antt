-- How the signals of a call are shown: the channels raised, in the order A V R P S C, with commas between them.
use Rattle.std.specs.Prelude.{Bool, cond, List, ℕ, eqb, take}
use Rattle.ascii.specs.Ascii.{ascii}
use Rattle.state.specs.declared.ApprovalSignal.{ApprovalSignal}
use Rattle.state.specs.declared.Challenge.{Challenge}
use Rattle.state.specs.declared.ChallengeSignal.{ChallengeSignal}
use Rattle.state.specs.declared.ReadOnlySignal.{ReadOnlySignal}
use Rattle.state.specs.declared.Signals.{Signals}
use Rattle.state.specs.declared.ValidationsSignal.{ValidationsSignal}
use Rattle.replay_page.specs.Page.{Page, ◌▸◌, text, number, bytes, digits, item, yes_no}

-- a name; a comma before it, unless the list begins here
unfoldable pub next : ℕ → List ℕ → Page → Page
next from name p = cond (eqb p.place from) (text name p) (p ▸ text (ascii ",") ▸ text name)

-- A, V
unfoldable pub raised : ℕ → Bool → List ℕ → Page → Page
raised from sent name p = cond sent (next from name p) p

-- R: read-only or not
unfoldable pub read_only : ℕ → ReadOnlySignal → Page → Page
read_only from s p = cond s.sent (p ▸ next from (ascii "R:") ▸ yes_no s.value) p

-- P: a digest to store, or erase
unfoldable pub approval : ℕ → ApprovalSignal → Page → Page
approval from s p = cond s.sent (cond s.car.known (p ▸ next from (ascii "P:") ▸ bytes s.car.digest) (p ▸ next from (ascii "P:") ▸ text (ascii "erase"))) p

-- S: a record to store, or erase
unfoldable pub validations : ℕ → ValidationsSignal → Page → Page
validations from s p = cond s.sent (cond (eqb s.stored.len 0) (p ▸ next from (ascii "S:") ▸ text (ascii "erase")) (p ▸ next from (ascii "S:") ▸ bytes (take s.stored.len s.stored.bytes))) p

-- SESSION/PLACE/CODE
unfoldable pub running : Challenge → Page → Page
running c p = p ▸ number c.session ▸ item (ascii "/") c.method ▸ text (ascii "/") ▸ digits c.code c.length

-- C: the running challenge, or none
unfoldable pub challenge : ℕ → ChallengeSignal → Page → Page
challenge from s p = cond s.sent (cond s.challenge.running (p ▸ next from (ascii "C:") ▸ running s.challenge) (p ▸ next from (ascii "C:") ▸ text (ascii "none"))) p

-- a list that is empty
unfoldable pub ended : ℕ → Page → Page
ended from p = cond (eqb p.place from) (text (ascii "none") p) p

-- the list, which begins at a place
unfoldable pub listed : ℕ → Signals → Page → Page
listed from s p =
    p ▸ raised from s.access (ascii "A") ▸ raised from s.availability (ascii "V") ▸ read_only from s.readonly
    ▸ approval from s.approval ▸ validations from s.validations ▸ challenge from s.challenge ▸ ended from

unfoldable pub signals : Signals → Page → Page
signals s p = listed (text (ascii " signals=") p).place s (text (ascii " signals=") p)
