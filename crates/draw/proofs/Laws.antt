-- Laws of the definitions of specs/, as the loops need them.
use Rattle.std.proofs.Common.{◌≡◌, refl, Option, Some, None, cond, List, [], ◌∷◌, ◌++◌, append_assoc, ℕ, zero, suc, ◌+◌, ◌-◌, ◌/◌, ◌%◌, ◌^◌, ◌≤◌, ◌<◌, add-one, arith, ltb, lt-ltb, le-ltb, length, drop, set, get_or, replicate, length-append, length-set, drop-cons, get_or-set_same}
use Rattle.std.proofs.Math.Nat.{one-le-pow, pow-le-pow_right}
use Rattle.std.proofs.lemmas.List.{drop_at, drop-set-lt, replicate-append-replicate}
use Rattle.std.proofs.Math.ListN.{length-replicate}
use Rattle.std.specs.Int.{w32, from_le_bytes}
use Rattle.std.specs.Simd.{first_chunks}
use Rattle.arrays.specs.Arrays.{padded}
use Rattle.draw.specs.Draw.{group, first_below, digits}

-- ---- groups

-- the first number below l of groups of four bytes
abbrev pub among : ℕ → List (List ℕ) → Option ℕ
among l [] = None
among l (g ∷ gs) = cond (ltb (from_le_bytes w32 g) l) (Some (from_le_bytes w32 g)) (among l gs)

group_value : (a b c d : ℕ) → from_le_bytes w32 (a ∷ b ∷ c ∷ d ∷ []) ≡ group a b c d
unfolding group
group_value a b c d = omega arith

-- a slice's whole groups are those of the definition
pub among_chunks : (l n : ℕ) (s : List ℕ) → n ≡ length s / 4 → among l (first_chunks 4 n s) ≡ first_below l s
unfolding first_below
among_chunks l zero [] e = refl
among_chunks l zero (a ∷ []) e = refl
among_chunks l zero (a ∷ b ∷ []) e = refl
among_chunks l zero (a ∷ b ∷ c ∷ []) e = refl
among_chunks l zero (a ∷ b ∷ c ∷ d ∷ r) e = absurd (omega arith)
among_chunks l (suc n) [] e = absurd (omega arith)
among_chunks l (suc n) (a ∷ []) e = absurd (omega arith)
among_chunks l (suc n) (a ∷ b ∷ []) e = absurd (omega arith)
among_chunks l (suc n) (a ∷ b ∷ c ∷ []) e = absurd (omega arith)
among_chunks l (suc n) (a ∷ b ∷ c ∷ d ∷ r) e = rw (group_value a b c d, among_chunks l n r (omega arith))

-- the group at i is below l, or it is passed over
module _ (l v : ℕ) (gs : List (List ℕ)) (i : ℕ) (inside : i < length gs) (read : v ≡ from_le_bytes w32 (get_or gs i [])) where
  pub among_here : v < l → among l (drop i gs) ≡ Some v
  among_here h = rw (drop-cons gs i [] inside, ← read, lt-ltb v l h)

  pub among_next : l ≤ v → among l (drop i gs) ≡ among l (drop (i + 1) gs)
  among_next h = rw (add-one, drop-cons gs i [] inside, ← read, le-ltb v l h)

-- ---- powers of ten

pub ten_small : (n : ℕ) → n ≤ 9 → 10 ^ n ≤ 1000000000
ten_small n h = let q : 10 ^ n ≤ 10 ^ 9 = pow-le-pow_right (omega arith) h in q

pub ten_pos : (n : ℕ) → 0 < 10 ^ n
ten_pos n = one-le-pow n 10 (omega arith)

-- ---- digits

pub digits_length : (v n : ℕ) → length (digits v n) ≡ n
unfolding digits
digits_length v zero = refl
digits_length v (suc n) = rw (length-append, digits_length (v / 10) n) (omega arith)

-- a store at k puts the last of k + 1 digits in front of what follows
pub digits_store : (v k : ℕ) (code : List ℕ) → k < length code
    → digits v (suc k) ++ drop (suc k) code ≡ digits (v / 10) k ++ drop k (set code k (48 + v % 10))
unfolding digits
digits_store v k code h =
    let far : k < length (set code k (48 + v % 10)) = rw length-set h in
    rw (append_assoc, drop-cons (set code k (48 + v % 10)) k 0 far, get_or-set_same code k (48 + v % 10) 0 h, drop-set-lt (suc k) code k (48 + v % 10) (omega arith))

-- before the first store there are zeros
pub digits_start : (v n : ℕ) → n ≤ 9 → padded 9 0 (digits v n) ≡ digits v n ++ drop n (replicate 9 0)
unfolding padded
digits_start v n h =
    let e : n + (9 - n) ≡ 9 = omega arith in
    let f = replicate-append-replicate {A = ℕ} n (9 - n) 0 in
    let g = drop_at {A = ℕ} (replicate n 0) (replicate (9 - n) 0) n (length-replicate n 0) in
    rw (digits_length v n, ← g, f, e)
