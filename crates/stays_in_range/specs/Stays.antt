-- No call makes a gate that later calls would answer with 25: a new gate is in range, with 25 too, and a gate in range stays so.
-- A list that stands for an array is asked to have the array's length where it matters, and only there: `Sized`, and of a gate `SizedGate`
-- (proofs/Needed.antt has what happens else).
use Rattle.std.specs.Prelude.{ℕ, ◌≡◌, Bool, true, List, [], ◌∷◌, eqb, length}
use Rattle.phones.specs.Ids.{all_of}
use Rattle.frames.specs.declared.ProbeFrame.{ProbeFrame}
use Rattle.saved_record.specs.SavedRecord.{CarIds}
use Rattle.saved_record.specs.Store.{cars_of}
use Rattle.state.specs.declared.Method.{Method}
use Rattle.state.specs.declared.Settings.{Settings}
use Rattle.state.specs.declared.Gate.{Gate}
use Rattle.state.specs.View.{view}
use Rattle.range.specs.Range.{in_range}
use Rattle.definition.specs.Gate.{Call, new_gate_call, on_core, open_identity_probe, after, after_all}

abbrev pub InRange : Gate → Type 0
InRange g = in_range (view g) ≡ true

-- ---- what the types of the arguments give

-- ShortId: bytes is a [u8; 32]
abbrev pub IdsOf32 : List Method → Type 0
IdsOf32 [] = Unit {0}
IdsOf32 (m ∷ ms) = (length m.id.bytes ≡ 32) × IdsOf32 ms

-- New gate: methods is a [Method; 8]
pub record SizedMethods (methods : List Method) : Type 0 where
  pub eight : length methods ≡ 8
  pub ids : IdsOf32 methods

-- New gate: as above. Open probe: frames is a [ProbeFrame; 4]. Of the other calls nothing is asked
pub record Sized (k : Call) : Type 0 where
  pub new : (settings : Settings) (methods : List Method) (count : ℕ) → k ≡ new_gate_call settings methods count → SizedMethods methods
  pub probe : (bus : ℕ) (frames : List ProbeFrame) (count clock : ℕ) → k ≡ on_core (open_identity_probe bus frames count clock) → length frames ≡ 4

abbrev pub AllSized : List Call → Type 0
AllSized [] = Unit {0}
AllSized (k ∷ ks) = Sized k × AllSized ks

-- ---- what the type of a gate gives

-- car is a [u8; 32]
abbrev pub digests_of32 : List CarIds → Bool
digests_of32 cs = all_of (λ (c : CarIds). eqb (length c.car) 32) cs

-- the digests of the store, which opening a save writes down; of the car identified now, which a session takes; and of the session's, which
-- comes into the store
pub record SizedGate (g : Gate) : Type 0 where
  pub stored : digests_of32 (cars_of g.phones.store) ≡ true
  pub identified : length g.core.policy.identity.car.digest ≡ 32
  pub session : length g.core.validation.session.car ≡ 32

-- ---- the claims

-- New gate makes a gate in range of any settings, methods and count, whatever gate was before it; where it answers 25, too
abbrev pub NewInRange : Type 0
NewInRange = (g : Gate) (settings : Settings) (methods : List Method) (count : ℕ) → SizedMethods methods → InRange (after g (new_gate_call settings methods count))

-- whatever the call, a gate in range is left in range, and its digests have 32 bytes still
abbrev pub StaysInRange : Type 0
StaysInRange = (g : Gate) (k : Call) → Sized k → SizedGate g → InRange g → InRange (after g k) × SizedGate (after g k)

-- so is every gate that any calls make from a new gate
abbrev pub AlwaysInRange : Type 0
AlwaysInRange =
    (g : Gate) (settings : Settings) (methods : List Method) (count : ℕ) (ks : List Call) → SizedMethods methods → AllSized ks
    → InRange (after_all (after g (new_gate_call settings methods count)) ks)
