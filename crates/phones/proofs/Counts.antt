-- A removal leaves no more ids than there were.
use mathlib.Core.Bool.{Bool, true, false, cond}
use mathlib.Core.List.{List, [], ◌∷◌}
use Prim.Native.Nat.{ℕ, suc, ◌≤◌}
use native.Mathlib.Omega.{arith}
use lib.ListN.{length}
use Rattle.arrays.specs.Arrays.{same_bytes}
use Rattle.phones.specs.Ids.{kept, remove_first}

pub kept_length : {A : Type 0} (f : A → Bool) (xs : List A) → length (kept f xs) ≤ length xs
unfolding kept
kept_length f [] = omega arith
kept_length f (x ∷ xs) = go (f x) (kept_length f xs)
  where
    go : (t : Bool) → length (kept f xs) ≤ length xs → length (cond t (x ∷ kept f xs) (kept f xs)) ≤ suc (length xs)
    go true h = omega arith
    go false h = omega arith

pub first_length_lem : (s : List ℕ) (ps : List (List ℕ)) → length (remove_first s ps) ≤ length ps
unfolding remove_first
first_length_lem s [] = omega arith
first_length_lem s (p ∷ ps) = go (same_bytes p s) (first_length_lem s ps)
  where
    go : (t : Bool) → length (remove_first s ps) ≤ length ps → length (cond t ps (p ∷ remove_first s ps)) ≤ suc (length ps)
    go true h = omega arith
    go false h = omega arith
