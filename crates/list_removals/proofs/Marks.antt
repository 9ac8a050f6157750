-- Removal by marks: which marks each removal makes.
use Rattle.std.proofs.Common.{◌≡◌, refl, ap, sym, ◌∙◌, ℕ, zero, suc, ◌+◌, ◌<◌, ◌≤◌, arith, Bool, true, false, cond, not, List, [], ◌∷◌, map, length, get_or, set, replicate, Option, Some, None, ltb, eqb, get_or-set_other, get_or-set_same}
use borrow.Author.Tests.{ltb-false, eqb-true, eqb-false}
use lib.Seq.{set_out}
use lib.ListN.{get_or-replicate, length-replicate}
use Rattle.std.specs.Prelude.{position}
use Rattle.std.specs.List.{position_or_len}
use Rattle.arrays.specs.Arrays.{same_bytes}
use Rattle.phones.specs.Ids.{kept, keep_where, remove_first}

-- ---- by a test of the id

pub keep_marked : {A : Type 0} (f : A → Bool) (xs : List A) → keep_where (map f xs) xs ≡ kept f xs
unfolding keep_where kept
keep_marked f [] = refl
keep_marked f (x ∷ xs) = rw (keep_marked f xs)

pub marked_at : (f : List ℕ → Bool) (ps : List (List ℕ)) (i : ℕ) → i < length ps → f (get_or ps i []) ≡ get_or (map f ps) i false
marked_at f [] i h = absurd (omega arith)
marked_at f (p ∷ ps) zero h = refl
marked_at f (p ∷ ps) (suc i) h = marked_at f ps i (omega arith)

-- ---- the first that is a string

-- every place but one
abbrev pub all_but : ℕ → List Bool
all_but k = set (replicate 32 true) k false

keep_all : {A : Type 0} (n : ℕ) (xs : List A) → length xs ≤ n → keep_where (replicate n true) xs ≡ xs
unfolding keep_where
keep_all n [] h = refl
keep_all zero (x ∷ xs) h = absurd (omega arith)
keep_all {A = A} (suc n) (x ∷ xs) h = ap (λ (ys : List A). x ∷ ys) (keep_all n xs (omega arith))

keep_first : (n : ℕ) (s : List ℕ) (ps : List (List ℕ)) → length ps ≤ n → keep_where (set (replicate n true) (position_or_len (λ p. same_bytes p s) ps) false) ps ≡ remove_first s ps
unfolding keep_where remove_first
keep_first n s [] h = refl
keep_first zero s (p ∷ ps) h = absurd (omega arith)
keep_first (suc n) s (p ∷ ps) h = go (same_bytes p s) (keep_first n s ps (omega arith))
  where
    at : ℕ
    at = position_or_len (λ q. same_bytes q s) ps

    go : (t : Bool) → keep_where (set (replicate n true) at false) ps ≡ remove_first s ps
        → keep_where (set (true ∷ replicate n true) (cond (not t) (1 + at) 0) false) (p ∷ ps) ≡ cond t ps (p ∷ remove_first s ps)
    go true e = keep_all n ps (omega arith)
    go false e = let one : 1 + at ≡ suc at = omega arith in rw one (ap (λ (qs : List (List ℕ)). p ∷ qs) e)

at_some : (k n first : ℕ) → Some first ≡ cond (ltb k n) (Some k) None → first ≡ k
at_some k n first e = go (ltb k n) e
  where
    go : (t : Bool) → Some first ≡ cond t (Some k) None → first ≡ k
    go true h = cc
    go false h = cc

at_none : (k n : ℕ) → ◌≡◌ {A = Option ℕ} None (cond (ltb k n) (Some k) None) → n ≤ k
at_none k n e = go (ltb k n) refl e
  where
    go : (t : Bool) → ltb k n ≡ t → ◌≡◌ {A = Option ℕ} None (cond t (Some k) None) → n ≤ k
    go true f h = absurd (let z : ◌≡◌ {A = Option ℕ} None (Some k) = h in cc)
    go false f h = ltb-false k n f

pub none_removed : (s : List ℕ) (ps : List (List ℕ)) → ◌≡◌ {A = Option ℕ} None (position (λ p. same_bytes p s) ps) → remove_first s ps ≡ ps
none_removed s ps e =
    let k : ℕ = position_or_len (λ p. same_bytes p s) ps in
    let past : length ps ≤ k = at_none k (length ps) e in
    let out = set_out (replicate (length ps) true) k false (rw length-replicate past) in
    sym (keep_first (length ps) s ps (omega arith)) ∙ rw out (keep_all (length ps) ps (omega arith))

-- the mark of each place but the first that is the string
pub all_but_at : (s : List ℕ) (ps : List (List ℕ)) (i first : ℕ) → Some first ≡ position (λ p. same_bytes p s) ps → i < 32 → not (eqb i first) ≡ get_or (all_but first) i false
all_but_at s ps i first e h = go (eqb i first) refl
  where
    go : (t : Bool) → eqb i first ≡ t → not t ≡ get_or (all_but first) i false
    go true k = rw (← eqb-true i first k) (sym (get_or-set_same (replicate 32 true) i false false h))
    go false k = sym (get_or-set_other (replicate 32 true) first i false false (eqb-false i first k) ∙ get_or-replicate 32 i true false h)

pub first_marks : (s : List ℕ) (ps : List (List ℕ)) (first : ℕ) → Some first ≡ position (λ p. same_bytes p s) ps → length ps ≤ 32 → remove_first s ps ≡ keep_where (all_but first) ps
first_marks s ps first e h = rw (at_some (position_or_len (λ p. same_bytes p s) ps) (length ps) first e) (sym (keep_first 32 s ps h))
