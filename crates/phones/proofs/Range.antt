-- Lists in range: which are so, and that what the functions make of them is so too.
use mathlib.Core.Path.{◌≡◌, refl, ◌∙◌}
use mathlib.Core.Bool.{Bool, true, false, cond, not, ◌&&◌}
use mathlib.Core.List.{List, [], ◌∷◌, ◌++◌}
use Prim.Native.Nat.{ℕ, zero, suc, ◌+◌, ◌≤◌}
use native.Mathlib.Omega.{arith}
use borrow.Author.Tests.{le-ltb, ltb-true, ltb-false}
use lib.Dec.{ltb}
use lib.ListN.{length, get_or, length-append}
use Rattle.arrays.specs.Arrays.{same_bytes}
use Rattle.phones.specs.declared.PhoneList.{PhoneList}
use Rattle.phones.specs.Ids.{some_of, kept, joined, remove_first, remove_all, retain_in, room_for, pushed, stays, becomes}
use Rattle.phones.specs.Phones.{id_of, too_long, id_in_range, phones_of, list_of, list_in_range, laid}
use Rattle.phones.proofs.Search.{none_cons}
use Rattle.phones.proofs.Counts.{kept_length, first_length_lem}
use Rattle.phones.proofs.Packed.{fits_of_list, fits_parts, parts_fit, range_fits}

-- each of these strings fits an id
abbrev pub Short : List (List ℕ) → Type 0
Short ps = (i : ℕ) → length (get_or ps i []) ≤ 32

-- ---- strings that fit

short_cons : (p : List ℕ) (ps : List (List ℕ)) → length p ≤ 32 → Short ps → Short (p ∷ ps)
short_cons p ps h k zero = h
short_cons p ps h k (suc i) = k i

pub short_kept : (f : List ℕ → Bool) (ps : List (List ℕ)) → Short ps → Short (kept f ps)
unfolding kept
short_kept f [] h = h
short_kept f (p ∷ ps) h = go (f p) (short_kept f ps (λ i. h (suc i)))
  where
    go : (t : Bool) → Short (kept f ps) → Short (cond t (p ∷ kept f ps) (kept f ps))
    go true rest = short_cons p (kept f ps) (h zero) rest
    go false rest = rest

pub short_first : (s : List ℕ) (ps : List (List ℕ)) → Short ps → Short (remove_first s ps)
unfolding remove_first
short_first s [] h = h
short_first s (p ∷ ps) h = go (same_bytes p s) (short_first s ps (λ i. h (suc i)))
  where
    go : (t : Bool) → Short (remove_first s ps) → Short (cond t ps (p ∷ remove_first s ps))
    go true rest = λ i. h (suc i)
    go false rest = short_cons p (remove_first s ps) (h zero) rest

pub short_snoc : (s : List ℕ) (ps : List (List ℕ)) → length s ≤ 32 → Short ps → Short (ps ++ (s ∷ []))
short_snoc s [] h k = short_cons s [] h k
short_snoc s (p ∷ ps) h k = short_cons p (ps ++ (s ∷ [])) (k zero) (short_snoc s ps h (λ i. k (suc i)))

-- ---- the range of a list

pub id_range : (s : List ℕ) → length s ≤ 32 → id_in_range (id_of s) ≡ true
unfolding id_in_range too_long id_of
id_range s h = rw (le-ltb _ _ h)

none_long : (ps : List (List ℕ)) → Short ps → some_of (λ (p : List ℕ). ltb 32 (length p)) ps ≡ false
unfolding some_of
none_long [] h = refl
none_long (p ∷ ps) h = rw (le-ltb _ _ (h zero)) (none_long ps (λ i. h (suc i)))

all_short : (ps : List (List ℕ)) → some_of (λ (p : List ℕ). ltb 32 (length p)) ps ≡ false → Short ps
all_short [] h = λ i. omega arith
all_short (p ∷ ps) h =
    let k = none_cons (λ (q : List ℕ). ltb 32 (length q)) p ps h in
    short_cons p ps (ltb-false _ _ k.0) (all_short ps k.1)

-- a canonical list of at most 32 ids that fit
pub list_range : (ps : List (List ℕ)) → length ps ≤ 32 → Short ps → list_in_range (list_of ps) ≡ true
list_range ps h k = fits_of_list ps ∙ parts_fit ps h (none_long ps k)

pub range_count : (l : PhoneList) → list_in_range l ≡ true → length (phones_of l) ≤ 32
range_count l h = (fits_parts (phones_of l) (range_fits l h)).0

pub range_short : (l : PhoneList) → list_in_range l ≡ true → Short (phones_of l)
range_short l h = all_short (phones_of l) (fits_parts (phones_of l) (range_fits l h)).1

-- ---- what is made of a list in range

range_kept : (f : List ℕ → Bool) (l : PhoneList) → list_in_range l ≡ true → list_in_range (list_of (kept f (phones_of l))) ≡ true
range_kept f l h =
    let k = range_count l h in
    let m = kept_length f (phones_of l) in
    list_range (kept f (phones_of l)) (omega arith) (short_kept f (phones_of l) (range_short l h))

pub range_all : (s : List ℕ) (l : PhoneList) → list_in_range l ≡ true → list_in_range (list_of (remove_all s (phones_of l))) ≡ true
unfolding remove_all
range_all s l h = range_kept (λ (p : List ℕ). not (same_bytes p s)) l h

pub range_retain : (os : List (List ℕ)) (l : PhoneList) → list_in_range l ≡ true → list_in_range (list_of (retain_in os (phones_of l))) ≡ true
unfolding retain_in
range_retain os l h = range_kept _ l h

pub range_first : (s : List ℕ) (l : PhoneList) → list_in_range l ≡ true → list_in_range (list_of (remove_first s (phones_of l))) ≡ true
range_first s l h =
    let k = range_count l h in
    let m = first_length_lem s (phones_of l) in
    list_range (remove_first s (phones_of l)) (omega arith) (short_first s (phones_of l) (range_short l h))

pub range_append : (l : PhoneList) (s : List ℕ) → list_in_range l ≡ true → length s ≤ 32 → list_in_range (laid l (pushed s (phones_of l))) ≡ true
unfolding pushed room_for
range_append l s h k = go (ltb (length (phones_of l)) 32) (not (ltb 1024 (length (joined (phones_of l)) + length s))) refl
  where
    go : (t u : Bool) → ltb (length (phones_of l)) 32 ≡ t → list_in_range (laid l (cond (t && u) (becomes (phones_of l ++ (s ∷ []))) stays)) ≡ true
    go true true e = list_range (phones_of l ++ (s ∷ [])) (rw length-append (omega (arith, ltb-true (length (phones_of l)) 32 e))) (short_snoc s (phones_of l) k (range_short l h))
    go true false e = h
    go false u e = h
