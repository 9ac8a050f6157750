-- Laws of the comparison that looks at every byte: what differs is gathered by `or`.
use Rattle.std.proofs.Common.{◌≡◌, refl, ap, sym, ◌∙◌, Bool, true, false, cond, List, ℕ, ◌+◌, min, ◌≤◌, ◌<◌, arith, ne_eqb, eqb-true, leb-true, leb-false, eqb, leb, length, take, drop, get_or, take_all}
use borrow.Author.Tests.{eqb-false}
use lib.Bits.{bit_or, bit_xor, or_add_and, xor_add_and, and_le_l, and_le_r, xor_self}
use Rattle.arrays.specs.Arrays.{same_bytes}
use Rattle.arrays.proofs.Laws.{same_step, same_end}

xor_zero : (x y : ℕ) → bit_xor x y ≡ 0 → x ≡ y
xor_zero x y e = omega (arith, xor_add_and x y, and_le_l x y, and_le_r x y)

or_zero : (a b : ℕ) → bit_or a b ≡ 0 → (a ≡ 0) × (b ≡ 0)
or_zero a b e = omega (arith, or_add_and a b, and_le_l a b, and_le_r a b)

-- nothing differs so far and here exactly if nothing differed before and the bytes are the same
gather : (d x y : ℕ) (t : Bool) → cond (eqb d 0) (cond (eqb x y) t false) false ≡ cond (eqb (bit_or d (bit_xor x y)) 0) t false
gather d x y t = go (eqb d 0) (eqb x y) refl refl
  where
    go : (p q : Bool) → eqb d 0 ≡ p → eqb x y ≡ q → cond p (cond q t false) false ≡ cond (eqb (bit_or d (bit_xor x y)) 0) t false
    go true true e f = rw (eqb-true d 0 e, eqb-true x y f, xor_self)
    go true false e f = rw (ne_eqb (bit_or d (bit_xor x y)) 0 (λ z. eqb-false x y f (xor_zero x y (or_zero d (bit_xor x y) z).1)))
    go false q e f = rw (ne_eqb (bit_or d (bit_xor x y)) 0 (λ z. eqb-false d 0 e (or_zero d (bit_xor x y) z).0))

pub gather_step : (a b : List ℕ) (i d : ℕ) → i < length a → i < length b
    → same_bytes a b ≡ cond (eqb d 0) (same_bytes (drop i a) (drop i b)) false
    → same_bytes a b ≡ cond (eqb (bit_or d (bit_xor (get_or a i 0) (get_or b i 0))) 0) (same_bytes (drop (i + 1) a) (drop (i + 1) b)) false
gather_step a b i d ha hb inv =
    inv ∙ (ap (λ (t : Bool). cond (eqb d 0) t false) (same_step a b i ha hb) ∙ gather d (get_or a i 0) (get_or b i 0) (same_bytes (drop (i + 1) a) (drop (i + 1) b)))

cond_self : (t : Bool) → cond t true false ≡ t
cond_self true = refl
cond_self false = refl

pub gather_end : (a b : List ℕ) (i d : ℕ) → length a ≤ i → length b ≤ i
    → same_bytes a b ≡ cond (eqb d 0) (same_bytes (drop i a) (drop i b)) false → eqb d 0 ≡ same_bytes a b
gather_end a b i d ha hb inv = rw (inv, same_end a b i ha hb) (sym (cond_self (eqb d 0)))

-- more bytes than there are are all of them
pub take_clamped : (l : List ℕ) (n k : ℕ) → length l ≡ k → take (min n k) l ≡ take n l
take_clamped l n k e = go (leb n k) refl
  where
    go : (t : Bool) → leb n k ≡ t → take (min n k) l ≡ take n l
    go true p = let h = leb-true n k p in let m : min n k ≡ n = omega arith in rw m
    go false p = let h = leb-false n k p in take_all (min n k) l (omega arith) ∙ sym (take_all n l (omega arith))
