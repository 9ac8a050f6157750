-- Laws of the definitions of specs/.
use mathlib.Core.Path.{◌≡◌, refl, ap}
use mathlib.Core.List.{List, [], ◌∷◌, ◌++◌, map, append_assoc, append-nil}
use Prim.Native.Nat.{ℕ, zero, suc, ◌+◌, ◌-◌, ◌≤◌, ◌<◌, min}
use native.Mathlib.Nat.{zero-min, min-zero, suc-min-suc}
use native.Mathlib.Omega.{arith}
use borrow.Author.Tests.{lt-ltb, le-ltb}
use lib.ListN.{length, take, drop, replicate, length-append, length-map, length-take}
use lib.Seq.{take_at, drop_at}
use Rattle.std.proofs.lemmas.List.{drop-replicate}
use Rattle.arrays.specs.Arrays.{padded}
use Rattle.arrays.proofs.Laws.{padded_take}
use Rattle.phones.specs.declared.ShortId.{ShortId}
use Rattle.phones.specs.declared.PhoneList.{PhoneList}
use Rattle.phones.specs.Ids.{joined, room_for, pushed}
use Rattle.phones.specs.Phones.{id_bytes, id_of, ids_in, phones_of, list_of, laid}

-- ---- what is read back

pub bytes_of_id : (s : List ℕ) → id_bytes (id_of s) ≡ s
unfolding id_bytes id_of
bytes_of_id s = padded_take 32 0 s

ids_joined : (ps : List (List ℕ)) (x : List ℕ) → ids_in (map length ps) (joined ps ++ x) ≡ ps
unfolding ids_in joined
ids_joined [] x = refl
ids_joined (p ∷ ps) x =
    rw (append_assoc p (joined ps) x, take_at p (joined ps ++ x) (length p) refl, drop_at p (joined ps ++ x) (length p) refl, ids_joined ps x)

pub phones_of_list : (ps : List (List ℕ)) → phones_of (list_of ps) ≡ ps
unfolding phones_of list_of padded
phones_of_list ps =
    let m : length (map length ps) ≡ length ps = length-map ps length in
    rw (take_at (map length ps) (replicate (32 - length (map length ps)) 0) (length ps) m) (ids_joined ps _)

-- ---- an id

pub take_min : {A : Type 0} (n : ℕ) (xs : List A) → take (min n (length xs)) xs ≡ take n xs
take_min zero xs = rw zero-min
take_min (suc n) [] = rw min-zero
take_min (suc n) (x ∷ xs) = rw (suc-min-suc, take_min n xs)

drop_min : {A : Type 0} (n : ℕ) (xs : List A) → drop (min n (length xs)) xs ≡ drop n xs
drop_min zero xs = rw zero-min
drop_min (suc n) [] = rw min-zero
drop_min (suc n) (x ∷ xs) = rw (suc-min-suc, drop_min n xs)

-- no lengths are left, and no ids
pub no_ids : (lens bytes : List ℕ) → length lens ≡ 0 → ids_in lens bytes ≡ []
unfolding ids_in
no_ids [] b h = refl
no_ids (n ∷ ns) b h = absurd (omega arith)

-- the next id is cut off
pub next_id : (lens bytes others : List ℕ) (n k : ℕ) (id rest : List ℕ) → lens ≡ n ∷ others → k ≡ min n (length bytes) → id ≡ take k bytes → rest ≡ drop k bytes → ids_in lens bytes ≡ id ∷ ids_in others rest
unfolding ids_in
next_id lens bytes others n k id rest e f g h = rw (e, g, h, f, take_min, drop_min)

-- a length above 32 counts as 32
pub bytes_used : (p : ShortId) (n : ℕ) → length p.bytes ≡ 32 → n ≡ min p.len 32 → take n p.bytes ≡ id_bytes p
unfolding id_bytes
bytes_used p n h e = rw (e, ← h, take_min p.len p.bytes)

pub lens_used : (l : PhoneList) (n : ℕ) → length l.lens ≡ 32 → n ≡ min l.count 32 → take n l.lens ≡ take l.count l.lens
lens_used l n h e = rw (e, ← h, take_min l.count l.lens)

pub used_length : (p : ShortId) → length p.bytes ≡ 32 → length (id_bytes p) ≡ min p.len 32
unfolding id_bytes
used_length p h = rw (length-take, h)

-- a string copied over zeros
pub over_zeros : (n : ℕ) (s : List ℕ) → s ++ drop (length s) (replicate n 0) ≡ padded n 0 s
unfolding padded
over_zeros n s = ap (λ (z : List ℕ). s ++ z) (drop-replicate (length s) n 0)

-- ---- how many, and how long together

pub ids_length : (ns b : List ℕ) → length (ids_in ns b) ≡ length ns
unfolding ids_in
ids_length [] b = refl
ids_length (n ∷ ns) b = ap suc (ids_length ns (drop n b))

pub phones_length : (l : PhoneList) → length l.lens ≡ 32 → length (phones_of l) ≡ min l.count 32
unfolding phones_of
phones_length l h = rw (ids_length, length-take, h)

pub joined_snoc : (ps : List (List ℕ)) (p : List ℕ) → joined (ps ++ (p ∷ [])) ≡ joined ps ++ p
unfolding joined
joined_snoc [] p = append-nil p
joined_snoc (q ∷ ps) p = rw (joined_snoc ps p, append_assoc)

pub joined_reach : (ps qs : List (List ℕ)) (p : List ℕ) → length (joined ps) + length p ≤ length (joined (ps ++ (p ∷ qs)))
unfolding joined
joined_reach [] qs p = rw length-append (omega arith)
joined_reach (q ∷ ps) qs p = let h = joined_reach ps qs p in rw (length-append, length-append) (omega arith)

-- ---- one id more

module _ (l : PhoneList) (s : List ℕ) where
  pub append_room : length (phones_of l) < 32 → length (joined (phones_of l)) + length s ≤ 1024 → laid l (pushed s (phones_of l)) ≡ list_of (phones_of l ++ (s ∷ []))
  unfolding pushed room_for
  append_room h k = rw (lt-ltb _ _ h, le-ltb _ _ k)

  pub append_full : 32 ≤ length (phones_of l) → laid l (pushed s (phones_of l)) ≡ l
  unfolding pushed room_for
  append_full h = rw (le-ltb _ _ h)

  pub append_long : length (phones_of l) < 32 → 1024 < length (joined (phones_of l)) + length s → laid l (pushed s (phones_of l)) ≡ l
  unfolding pushed room_for
  append_long h k = rw (lt-ltb _ _ h, lt-ltb _ _ k)
