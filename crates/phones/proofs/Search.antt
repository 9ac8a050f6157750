-- Steps of a loop that looks for an element: what is left to look at is what stands from i on.
use mathlib.Core.Path.{◌≡◌, refl, ◌∙◌}
use mathlib.Core.Bool.{Bool, true, false, cond, true≢false}
use mathlib.Core.List.{List, [], ◌∷◌, ◌++◌}
use Prim.Native.Nat.{ℕ, ◌+◌, ◌≤◌, ◌<◌}
use native.Mathlib.Numerals.{add-one}
use native.Mathlib.Omega.{arith}
use lib.Dec.{ltb, leb}
use Rattle.std.proofs.lemmas.Grind.{common_steps}
use Rattle.std.specs.List.{list_any, list_all}
use mathlib.Core.Bool.{◌||◌, ◌&&◌, not}
use lib.ListN.{length, drop, get_or, drop_of_length-le}
use lib.Seq.{drop-cons}
use Rattle.phones.specs.Ids.{some_of}

-- ---- whether there is one

pub some_step : {A : Type 0} (f : A → Bool) (xs : List A) (d : A) (i : ℕ) → i < length xs
    → some_of f (drop i xs) ≡ cond (f (get_or xs i d)) true (some_of f (drop (i + 1) xs))
unfolding some_of
some_step f xs d i h = rw (add-one, drop-cons xs i d h)

module _ {A : Type 0} (f : A → Bool) (xs : List A) (d : A) (i : ℕ) (h : i < length xs) (inv : some_of f xs ≡ some_of f (drop i xs)) where
  pub some_again : f (get_or xs i d) ≡ false → some_of f xs ≡ some_of f (drop (i + 1) xs)
  some_again e = inv ∙ (some_step f xs d i h ∙ rw e)

  pub some_found : f (get_or xs i d) ≡ true → some_of f xs ≡ true
  some_found e = inv ∙ (some_step f xs d i h ∙ rw e)

pub some_end : {A : Type 0} (f : A → Bool) (xs : List A) (i : ℕ) → length xs ≤ i → some_of f xs ≡ some_of f (drop i xs) → some_of f xs ≡ false
unfolding some_of
some_end f xs i h inv = inv ∙ rw (drop_of_length-le xs h)

pub some_snoc : {A : Type 0} (f : A → Bool) (xs : List A) (x : A) → some_of f (xs ++ (x ∷ [])) ≡ cond (some_of f xs) true (f x)
unfolding some_of
some_snoc f [] x = go (f x)
  where
    go : (t : Bool) → cond t true false ≡ t
    go true = refl
    go false = refl
some_snoc f (y ∷ ys) x = rw (some_snoc f ys x) (go (f y) (some_of f ys) (f x))
  where
    go : (t u v : Bool) → cond t true (cond u true v) ≡ cond (cond t true u) true v
    go true u v = refl
    go false u v = refl

-- there is none: neither the first, nor one of the others
pub none_cons : {A : Type 0} (f : A → Bool) (x : A) (xs : List A) → some_of f (x ∷ xs) ≡ false → (f x ≡ false) × (some_of f xs ≡ false)
unfolding some_of
none_cons f x xs h = go (f x) h
  where
    go : (t : Bool) → cond t true (some_of f xs) ≡ false → (t ≡ false) × (some_of f xs ≡ false)
    go true e = absurd (true≢false e)
    go false e = (refl, e)

-- in std's words
pub some_is : {A : Type 0} (f : A → Bool) (xs : List A) → list_any f xs ≡ some_of f xs
unfolding some_of
some_is f [] = refl
some_is f (x ∷ xs) = rw (some_is f xs) (go (f x) (some_of f xs))
  where
    go : (t u : Bool) → t || u ≡ cond t true u
    go true u = refl
    go false u = refl

pub all_is : {A : Type 0} (f : A → Bool) (xs : List A) → list_all (λ (x : A). not (f x)) xs ≡ not (some_of f xs)
unfolding some_of
all_is f [] = refl
all_is f (x ∷ xs) = rw (all_is f xs) (go (f x) (some_of f xs))
  where
    go : (t u : Bool) → not t && not u ≡ not (cond t true u)
    go true u = refl
    go false u = refl

pub at_most_is : (n m : ℕ) → leb n m ≡ not (ltb m n)
at_most_is n m = grind (arith, common_steps)
