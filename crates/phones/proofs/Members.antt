-- Which strings a list has, also after a change.
use mathlib.Core.Path.{◌≡◌, refl, sym}
use mathlib.Core.Bool.{Bool, true, false, cond, false≢true}
use mathlib.Core.List.Memᴰ
use mathlib.Core.List.{List, [], ◌∷◌, ◌++◌, Memᴰ}
use mathlib.Core.Logic.{◌⊎◌, inl, inr}
use Prim.Native.Nat.{ℕ, zero, suc, ◌<◌}
use native.Mathlib.Omega.{arith}
use lib.ListN.{length}
use Rattle.arrays.specs.Arrays.{same_bytes}
use Rattle.arrays.proofs.Laws.{cond_same, same_refl, same_length, same_bytes_is}
use Rattle.phones.specs.Ids.{some_of, contains}
use Rattle.phones.proofs.Search.{some_snoc}
use Rattle.phones.proofs.Range.{Short}

-- ---- contains is membership

pub contains_member : (s : List ℕ) (ps : List (List ℕ)) → contains s ps ≡ true → Memᴰ s ps
unfolding contains some_of
contains_member s [] h = absurd (false≢true h)
contains_member s (p ∷ ps) h = go (same_bytes p s) refl h (λ k. contains_member s ps k)
  where
    go : (t : Bool) → same_bytes p s ≡ t → cond t true (contains s ps) ≡ true → (contains s ps ≡ true → Memᴰ s ps) → Memᴰ s (p ∷ ps)
    go true e q rest = Memᴰ.head (sym ((same_bytes_is p s).0 e))
    go false e q rest = Memᴰ.tail (rest q)

pub member_contains : (s : List ℕ) (ps : List (List ℕ)) → Memᴰ s ps → contains s ps ≡ true
unfolding contains some_of
member_contains s [] m = absurd (Memᴰ.not-nil m)
member_contains s (p ∷ ps) m = go (Memᴰ.cases_cons m) (λ k. member_contains s ps k)
  where
    go : (s ≡ p) ⊎ Memᴰ s ps → (Memᴰ s ps → contains s ps ≡ true) → cond (same_bytes p s) true (contains s ps) ≡ true
    go (inl e) rest = rw (e, same_refl p)
    go (inr k) rest = rw (rest k) (cond_same (same_bytes p s) true)

-- a long string is unknown
pub contains_long : (s : List ℕ) (ps : List (List ℕ)) → 32 < length s → Short ps → contains s ps ≡ false
unfolding contains some_of
contains_long s [] h k = refl
contains_long s (p ∷ ps) h k =
    let m = k zero in
    rw (same_length p s (λ e. omega arith)) (contains_long s ps h (λ i. k (suc i)))

-- ---- after a change

pub contains_append : (s : List ℕ) (ps : List (List ℕ)) (q : List ℕ) → contains s (ps ++ (q ∷ [])) ≡ cond (contains s ps) true (same_bytes q s)
unfolding contains
contains_append s ps q = some_snoc _ ps q
