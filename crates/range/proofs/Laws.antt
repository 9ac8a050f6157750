-- What `within` says, and the range of the waiting frames; a test of every element; and the cars in use, by their places.
use mathlib.Core.Path.{◌≡◌, refl, sym, ap, ◌∙◌}
use mathlib.Core.Bool.{Bool, true, false, cond, ◌&&◌, true≢false, and-eq-true_iff}
use mathlib.Core.List.{List, [], ◌∷◌}
use Prim.Native.Nat.{ℕ, zero, suc, ◌≤◌, ◌<◌}
use native.Mathlib.Omega.{arith}
use lib.Dec.{ltb}
use borrow.Author.Tests.{ltb-false}
use lib.ListN.{length, take}
use lib.Seq.{take-nil}
use Rattle.std.specs.List.{list_all}
use Rattle.phones.specs.Ids.{all_of}
use Rattle.saved_record.specs.declared.CarPhones.{CarPhones}
use Rattle.saved_record.specs.declared.Store.{Store}
use Rattle.saved_record.proofs.Laws.{place, four, below}
use Rattle.state.specs.View.{View, car_in_range}
use Rattle.range.specs.Range.{within, queue_fits, in_range}

pub within_is : (low high x : ℕ) → within low high x ≡ true → (low ≤ x) × (x ≤ high)
unfolding within
within_is low high x = go (ltb x low) refl (ltb high x) refl
  where
    go : (a : Bool) → ltb x low ≡ a → (b : Bool) → ltb high x ≡ b → cond a false (cond b false true) ≡ true → (low ≤ x) × (x ≤ high)
    go false p false q e = (ltb-false x low p, ltb-false high x q)
    go false p true q e = absurd (true≢false (sym e))
    go true p b q e = absurd (true≢false (sym e))

-- of a gate in range no more than sixteen wait
pub few_wait : (v : View) → in_range v ≡ true → v.queue.count < 17
unfolding in_range queue_fits
few_wait v h =
    let p = simp and-eq-true_iff at h in
    let b = within_is 0 16 v.queue.count p.1.0 in
    omega arith

and_cond : (a b : Bool) → (a && b) ≡ cond a b false
and_cond true b = refl
and_cond false b = refl

-- a test of every element is that of std's list
pub every : {A : Type 0} (f : A → Bool) (xs : List A) → list_all f xs ≡ all_of f xs
unfolding all_of
every f [] = refl
every f (x ∷ xs) = ap (λ (b : Bool). f x && b) (every f xs) ∙ and_cond (f x) (all_of f xs)

-- every car in use, by the four places
abbrev at_places : ℕ → CarPhones → CarPhones → CarPhones → CarPhones → Bool
at_places n a b c d =
    cond (cond (ltb 0 n) (car_in_range a) true) (cond (cond (ltb 1 n) (car_in_range b) true)
    (cond (cond (ltb 2 n) (car_in_range c) true) (cond (cond (ltb 3 n) (car_in_range d) true) true false) false) false) false

at_places_lem : (n : ℕ) (a b c d : CarPhones) → all_of car_in_range (take n (a ∷ b ∷ c ∷ d ∷ [])) ≡ at_places n a b c d
unfolding all_of
at_places_lem zero a b c d = refl
at_places_lem (suc zero) a b c d = refl
at_places_lem (suc (suc zero)) a b c d = refl
at_places_lem (suc (suc (suc zero))) a b c d = refl
at_places_lem (suc (suc (suc (suc n)))) a b c d = rw (below 0 n (omega arith), below 1 n (omega arith), below 2 n (omega arith), below 3 n (omega arith), take-nil n)

pub cars_by : (s : Store) → length s.cars ≡ 4
    → all_of car_in_range (take s.count s.cars) ≡ at_places s.count (place s.cars 0) (place s.cars 1) (place s.cars 2) (place s.cars 3)
cars_by s far = ap (λ (l : List CarPhones). all_of car_in_range (take s.count l)) (four s.cars far) ∙ at_places_lem s.count _ _ _ _
