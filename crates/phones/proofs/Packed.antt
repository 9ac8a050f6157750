-- What a layout of lists owes: the ids laid down are those that are read (Laws, `phones_of_list`), a list laid down is in range
-- exactly if its ids fit, and in range with a place left there is room for every id.
use mathlib.Core.Path.{◌≡◌, refl}
use mathlib.Core.Bool.{Bool, true, false, cond, not, false≢true}
use mathlib.Core.List.{List, [], ◌∷◌, ◌++◌, map}
use Prim.Native.Nat.{ℕ, ◌+◌, ◌-◌, ◌*◌, ◌<◌, ◌≤◌}
use native.Mathlib.Omega.{arith}
use borrow.Author.Tests.{lt-ltb, le-ltb, ltb-false, not-true}
use lib.Dec.{ltb}
use lib.ListN.{length, take, drop, replicate, length-append, length-map, length-take}
use lib.Seq.{take_at}
use Rattle.arrays.specs.Arrays.{padded}
use Rattle.phones.specs.declared.PhoneList.{PhoneList}
use Rattle.phones.specs.Ids.{some_of, joined, ids_fit, room_for, pushed, becomes}
use Rattle.phones.specs.Phones.{ids_in, phones_of, list_of, list_in_range}
use Rattle.phones.proofs.Laws.{ids_length}
use Rattle.phones.proofs.Search.{none_cons}

-- ---- range

some_map : {A B : Type 0} (f : B → Bool) (g : A → B) (xs : List A) → some_of f (map g xs) ≡ some_of (λ (x : A). f (g x)) xs
unfolding some_of
some_map f g [] = refl
some_map f g (x ∷ xs) = rw (some_map f g xs)

pub fits_of_list : (ps : List (List ℕ)) → list_in_range (list_of ps) ≡ ids_fit ps
unfolding list_in_range list_of ids_fit padded
fits_of_list ps =
    let m : length (map length ps) ≡ length ps = length-map ps length in
    rw (take_at (map length ps) (replicate (32 - length (map length ps)) 0) (length ps) m, some_map (ltb 32) length ps)

-- no number above 32, and none is too long
few_short : (n : ℕ) (t : Bool) → cond (ltb 32 n) false (not t) ≡ true → (n ≤ 32) × (t ≡ false)
few_short n t h = go (ltb 32 n) refl h
  where
    go : (a : Bool) → ltb 32 n ≡ a → cond a false (not t) ≡ true → (n ≤ 32) × (t ≡ false)
    go true e k = absurd (false≢true k)
    go false e k = (ltb-false 32 n e, not-true t k)

pub fits_parts : (ps : List (List ℕ)) → ids_fit ps ≡ true → (length ps ≤ 32) × (some_of (λ (p : List ℕ). ltb 32 (length p)) ps ≡ false)
unfolding ids_fit
fits_parts ps h = few_short (length ps) _ h

pub parts_fit : (ps : List (List ℕ)) → length ps ≤ 32 → some_of (λ (p : List ℕ). ltb 32 (length p)) ps ≡ false → ids_fit ps ≡ true
unfolding ids_fit
parts_fit ps h e = rw (le-ltb 32 (length ps) h, e)

-- what is cut from the array is no longer than its length says
ids_short : (ns b : List ℕ) → some_of (ltb 32) ns ≡ false → some_of (λ (p : List ℕ). ltb 32 (length p)) (ids_in ns b) ≡ false
unfolding some_of ids_in
ids_short [] b h = refl
ids_short (n ∷ ns) b h =
    let k = none_cons (ltb 32) n ns h in
    let s = ltb-false 32 n k.0 in
    let e : ltb 32 (length (take n b)) ≡ false = let l = length-take n b in le-ltb 32 (length (take n b)) (omega arith) in
    rw e (ids_short ns (drop n b) k.1)

-- the ids of a list in range fit
pub range_fits : (l : PhoneList) → list_in_range l ≡ true → ids_fit (phones_of l) ≡ true
unfolding list_in_range phones_of
range_fits l h =
    let k = few_short l.count (some_of (ltb 32) (take l.count l.lens)) h in
    let few : length (ids_in (take l.count l.lens) l.bytes) ≤ 32 = rw (ids_length, length-take) (omega arith) in
    parts_fit _ few (ids_short (take l.count l.lens) l.bytes k.1)

-- ---- room

joined_length : (ps : List (List ℕ)) → some_of (λ (p : List ℕ). ltb 32 (length p)) ps ≡ false → length (joined ps) ≤ 32 * length ps
unfolding joined
joined_length [] h = omega arith
joined_length (p ∷ ps) h =
    let k = none_cons (λ (q : List ℕ). ltb 32 (length q)) p ps h in
    let s = ltb-false 32 (length p) k.0 in
    let r = joined_length ps k.1 in
    rw length-append (omega arith)

pub always_room : (ps : List (List ℕ)) (s : List ℕ) → ids_fit ps ≡ true → length ps < 32 → length s ≤ 32 → pushed s ps ≡ becomes (ps ++ (s ∷ []))
unfolding pushed room_for
always_room ps s f h k =
    let j = joined_length ps (fits_parts ps f).1 in
    rw (lt-ltb (length ps) 32 h, le-ltb 1024 (length (joined ps) + length s) (omega arith))
