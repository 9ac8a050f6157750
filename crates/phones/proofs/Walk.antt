-- The bytes that the ids of a list take.
use Rattle.std.proofs.Common.{◌≡◌, refl, ap, ℕ, zero, suc, ◌≤◌, List, [], ◌∷◌, length, take, drop, length-append, length-take, arith}
use lib.Seq.{take-add}
use Rattle.phones.specs.Ids.{joined}
use Rattle.phones.specs.Phones.{ids_in}

-- as many bytes as there are
taken_take : (m : ℕ) (c : List ℕ) → take (length (take m c)) c ≡ take m c
taken_take zero c = refl
taken_take (suc m) [] = refl
taken_take (suc m) (x ∷ c) = ap (λ (y : List ℕ). x ∷ y) (taken_take m c)

taken_drop : (m : ℕ) (c : List ℕ) → drop (length (take m c)) c ≡ drop m c
taken_drop zero c = refl
taken_drop (suc m) [] = refl
taken_drop (suc m) (x ∷ c) = taken_drop m c

-- the bytes of all ids are the first bytes of the array, and end with it at the latest
pub ids_bytes : (ns b : List ℕ) → take (length (joined (ids_in ns b))) b ≡ joined (ids_in ns b)
unfolding ids_in joined
ids_bytes [] b = refl
ids_bytes (n ∷ ns) b =
    rw (length-append, take-add (length (take n b)) (length (joined (ids_in ns (drop n b)))) b, taken_take n b, taken_drop n b, ids_bytes ns (drop n b))

pub ids_end : (ns b : List ℕ) → length (joined (ids_in ns b)) ≤ length b
ids_end ns b =
    let e = ap length (ids_bytes ns b) in
    let f = length-take (length (joined (ids_in ns b))) b in
    omega arith
