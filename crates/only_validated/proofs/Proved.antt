-- Over a list of calls: who is listed at its end was listed all the way, or was validated by one of the calls. And the row.
use Prim.Native.Nat.{ℕ}
use mathlib.Core.Path.{◌≡◌, refl}
use mathlib.Core.Bool.{Bool, true, false}
use mathlib.Core.List.{List, [], ◌∷◌}
use mathlib.Core.Logic.{◌⊎◌, inl, inr}
use Rattle.phones.specs.Ids.{some_of}
use Rattle.saved_record.specs.Store.{cars_of}
use Rattle.saved_record.proofs.Laws.{cars_of_store}
use Rattle.state.specs.declared.Method.{Method}
use Rattle.state.specs.declared.Settings.{Settings}
use Rattle.state.specs.declared.Gate.{Gate}
use Rattle.new_gate.specs.New.{new_gate}
use Rattle.definition.specs.Gate.{Call, after, after_all}
use Rattle.only_validated.specs.Row.{listed, Listed, NotListed, car_now, Stays, last, more, WasValidated, here, later, OnlyValidated}
use Rattle.only_validated.proofs.Stores.{unlisted}
use Rattle.only_validated.proofs.Frames.{command, platform}
use Rattle.only_validated.proofs.Turns.{turn_needs, passes_listed}
use Rattle.only_validated.proofs.Gains.{becomes_listed}

stays_first : {car phone : List ℕ} (g : Gate) (ks : List Call) → Stays car phone g ks → Listed g car phone
stays_first g ks (last l) = l
stays_first g ks (more l s) = l

either : (car phone : List ℕ) (ks : List Call) (g : Gate) → Listed (after_all g ks) car phone → Stays car phone g ks ⊎ WasValidated car phone g ks
either car phone [] g l = inl (last l)
either car phone (k ∷ ks) g l = go (either car phone ks (after g k) l) (listed (cars_of g.phones.store) car phone) refl
  where
    go : Stays car phone (after g k) ks ⊎ WasValidated car phone (after g k) ks → (b : Bool) → listed (cars_of g.phones.store) car phone ≡ b
        → Stays car phone g (k ∷ ks) ⊎ WasValidated car phone g (k ∷ ks)
    go (inr w) b e = inr (later w)
    go (inl s) true e = inl (more e s)
    go (inl s) false e = let v = becomes_listed g k car phone e (stays_first (after g k) ks s) in inr (here v.0 v.1 s)

was_validated : (car phone : List ℕ) (ks : List Call) (g : Gate) → NotListed g car phone → Listed (after_all g ks) car phone → WasValidated car phone g ks
was_validated car phone ks g n l = go (either car phone ks g l)
  where
    go : Stays car phone g ks ⊎ WasValidated car phone g ks → WasValidated car phone g ks
    go (inl s) = unlisted _ n (stays_first g ks s)
    go (inr w) = w

-- nobody is listed in a new gate
new_none : (settings : Settings) (methods : List Method) (count : ℕ) (car phone : List ℕ) → NotListed (new_gate settings methods count).gate car phone
unfolding new_gate listed some_of
new_none settings methods count car phone = rw (cars_of_store [])

pub only_validated : OnlyValidated
only_validated = record {
  command = command;
  platform = platform;
  call = becomes_listed;
  turn = turn_needs;
  any_run = λ g ks owner n p. was_validated _ owner ks g n (passes_listed (after_all g ks) owner p);
  row = λ settings methods count ks owner p.
      let g = (new_gate settings methods count).gate in
      was_validated _ owner ks g (new_none settings methods count (car_now (after_all g ks)) owner) (passes_listed (after_all g ks) owner p);
}
