-- What holds of each element of a list.
use mathlib.Core.Path.{◌≡◌}
use mathlib.Core.Bool.{Bool, true}
use mathlib.Core.List.{List, [], ◌∷◌, ◌++◌, map}
use Prim.Native.Nat.{ℕ, zero, suc, ◌-◌}
use lib.ListN.{length, replicate}
use Rattle.arrays.specs.Arrays.{padded}
use Rattle.arrays.proofs.Laws.{both}
use Rattle.phones.specs.Ids.{all_of}
use Rattle.layouts.specs.Layouts.{All}

module _ {A : Type 0} (P : A → Type 0) where
  pub all_map : {B : Type 0} (f : B → A) (Q : B → Type 0) → ((y : B) → Q y → P (f y)) → (ys : List B) → All Q ys → All P (map f ys)
  all_map f Q k [] h = tt
  all_map f Q k (y ∷ ys) h = (k y h.0, all_map f Q k ys h.1)

  pub all_repeat : (n : ℕ) (d : A) → P d → All P (replicate n d)
  all_repeat zero d p = tt
  all_repeat (suc n) d p = (p, all_repeat n d p)

  pub all_padded : (n : ℕ) (d : A) (xs : List A) → P d → All P xs → All P (padded n d xs)
  unfolding padded
  all_padded n d xs p h = append xs h
    where
      append : (ys : List A) → All P ys → All P (ys ++ replicate (n - length xs) d)
      append [] k = all_repeat (n - length xs) d p
      append (y ∷ ys) k = (k.0, append ys k.1)

-- where a test passes
pub all_pass : {A : Type 0} (f : A → Bool) (xs : List A) → all_of f xs ≡ true → All (λ (x : A). f x ≡ true) xs
unfolding all_of
all_pass f [] h = tt
all_pass f (x ∷ xs) h = let p = both (f x) (all_of f xs) h in (p.0, all_pass f xs p.1)
