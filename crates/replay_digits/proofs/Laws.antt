-- Laws of the definitions of specs/.
use Rattle.std.specs.List.{list_all}
use Rattle.std.proofs.Common.{◌≡◌, ◌&&◌, refl, ap, sym, ◌∙◌, Bool, true, false, cond, List, [], ◌∷◌, ℕ, zero, suc, ◌+◌, ◌*◌, ◌/◌, ◌%◌, ◌≤◌, ◌<◌, eqb, ltb, leb, length, drop, get_or, replicate, Option, Some, None, add-one, arith, drop-cons}
use native.Mathlib.Nat.{sub-zero}
use Rattle.std.proofs.lemmas.Bool.Decides.{nat_tests}
use borrow.Author.Tests.{eqb-false, ltb-false, lt-ltb, le-ltb, le-leb, lt-leb}
use lib.ListN.{drop_of_length-le}
use Rattle.arrays.specs.Arrays.{padded, put}
use Rattle.arrays.proofs.Laws.{put_padded}
use Rattle.replay_digits.specs.Digits.{digit_of, number_from, number_in, all_digits, is_hex, pairs_of}

-- ---- tests

first_false : (t x : Bool) → cond t false x ≡ true → t ≡ false
first_false true x e = sym e
first_false false x e = refl

then_true : (t x : Bool) → cond t false x ≡ true → x ≡ true
then_true true x e = cc
then_true false x e = e

-- ---- numbers

pub number_none : (base most : ℕ) (s : List ℕ) → length s ≡ 0 → number_in base most s ≡ None
unfolding number_in
number_none base most [] h = refl
number_none base most (x ∷ xs) h = absurd (omega arith)

pub number_some : (base most : ℕ) (s : List ℕ) → (length s ≡ 0 → ⊥) → number_in base most s ≡ number_from base most 0 s
unfolding number_in
number_some base most [] h = absurd (h refl)
number_some base most (x ∷ xs) h = refl

number_turn : (base most v : ℕ) (s : List ℕ) (i : ℕ) → i < length s
    → number_from base most v (drop i s) ≡ cond (leb base (digit_of (get_or s i 0))) None (cond (ltb most (v * base + digit_of (get_or s i 0))) None (number_from base most (v * base + digit_of (get_or s i 0)) (drop (i + 1) s)))
unfolding number_from
number_turn base most v s i h = rw (add-one, drop-cons s i 0 h)

-- the number v and one digit more
module _ (base most v : ℕ) (s : List ℕ) (i d : ℕ) (inv : number_in base most s ≡ number_from base most v (drop i s)) (h : i < length s) (e : d ≡ digit_of (get_or s i 0)) where
  here : number_in base most s ≡ cond (leb base d) None (cond (ltb most (v * base + d)) None (number_from base most (v * base + d) (drop (i + 1) s)))
  here = rw e (inv ∙ number_turn base most v s i h)

  pub no_digit : base ≤ d → None ≡ number_in base most s
  no_digit k = sym (here ∙ rw (le-leb _ _ k))

  pub too_many : d < base → most < v * base + d → None ≡ number_in base most s
  too_many k m = sym (here ∙ rw (lt-leb _ _ k, lt-ltb _ _ m))

  pub one_more : d < base → (w : ℕ) → w ≡ v * base + d → w ≤ most → number_in base most s ≡ number_from base most w (drop (i + 1) s)
  one_more k w q m = here ∙ rw (lt-leb _ _ k, ← q, le-ltb _ _ m)

pub number_end : (base most v : ℕ) (s : List ℕ) (i : ℕ) → length s ≤ i → number_from base most v (drop i s) ≡ Some v
unfolding number_from
number_end base most v s i h = rw (drop_of_length-le s h)

-- ---- bytes

test_16 : (d : ℕ) (t : Bool) → cond (ltb 15 d) false t ≡ ltb d 16 && t
test_16 d t = grind (arith, nat_tests)

pub all_digits_is : (s : List ℕ) → all_digits s ≡ list_all (λ b. ltb (digit_of b) 16) s
unfolding all_digits
all_digits_is [] = refl
all_digits_is (b ∷ bs) = rw (all_digits_is bs) (test_16 (digit_of b) (list_all (λ x. ltb (digit_of x) 16) bs))

digit_at : (s : List ℕ) (k : ℕ) → all_digits s ≡ true → k < length s → digit_of (get_or s k 0) ≤ 15
unfolding all_digits
digit_at [] k e h = absurd (omega arith)
digit_at (b ∷ bs) zero e h = ltb-false 15 (digit_of b) (first_false (ltb 15 (digit_of b)) (all_digits bs) e)
digit_at (b ∷ bs) (suc k) e h = digit_at bs k (then_true (ltb 15 (digit_of b)) (all_digits bs) e) (omega arith)

pub hex_at : (s : List ℕ) (k : ℕ) → is_hex s ≡ true → k < length s → digit_of (get_or s k 0) ≤ 15
unfolding is_hex
hex_at s k e h = digit_at s k (then_true (eqb (length s % 2) 1) (all_digits s) e) h

pub hex_even : (s : List ℕ) → is_hex s ≡ true → length s % 2 ≡ 0
unfolding is_hex
hex_even s e = omega (arith, eqb-false (length s % 2) 1 (first_false (eqb (length s % 2) 1) (all_digits s) e))

pub pairs_length : (s : List ℕ) → length (pairs_of s) ≡ length s / 2
unfolding pairs_of
pairs_length [] = refl
pairs_length (a ∷ []) = refl
pairs_length (a ∷ b ∷ s) = let h = pairs_length s in omega arith

two_more : (i : ℕ) → 2 * suc i ≡ suc (suc (2 * i))
two_more i = omega arith

three_more : (i : ℕ) → 2 * suc i + 1 ≡ suc (suc (2 * i + 1))
three_more i = omega arith

pub pairs_at : (s : List ℕ) (i : ℕ) → i < length s / 2 → get_or (pairs_of s) i 0 ≡ digit_of (get_or s (2 * i) 0) * 16 + digit_of (get_or s (2 * i + 1) 0)
unfolding pairs_of
pairs_at [] i h = absurd (omega arith)
pairs_at (a ∷ []) i h = absurd (omega arith)
pairs_at (a ∷ b ∷ s) zero h = refl
pairs_at (a ∷ b ∷ s) (suc i) h = rw (three_more i, two_more i) (pairs_at s i (omega arith))

-- ---- a number is at most `most`

most_by : (t u : Bool) (most n : ℕ) (rest : Option ℕ) → (u ≡ false → rest ≡ Some n → n ≤ most) → cond t None (cond u None rest) ≡ Some n → n ≤ most
most_by true u most n rest f e = cc
most_by false true most n rest f e = cc
most_by false false most n rest f e = f refl e

from_most : (base most v n : ℕ) (s : List ℕ) → v ≤ most → number_from base most v s ≡ Some n → n ≤ most
unfolding number_from
from_most base most v n [] h e = let k : v ≡ n = cc in omega arith
from_most base most v n (b ∷ bs) h e =
    most_by (leb base (digit_of b)) (ltb most (v * base + digit_of b)) most n _ (λ l. from_most base most (v * base + digit_of b) n bs (ltb-false _ _ l)) e

-- a number that is read is at most `most`
pub number_most : (base most n : ℕ) (s : List ℕ) → number_in base most s ≡ Some n → n ≤ most
unfolding number_in
number_most base most n [] e = cc
number_most base most n (b ∷ bs) e = from_most base most 0 n (b ∷ bs) (omega arith) e

-- ---- bytes over zeros

pub put_zeros : (n : ℕ) (s : List ℕ) → put (replicate n 0) 0 s ≡ padded n 0 s
unfolding padded
put_zeros n s = ap (λ (m : ℕ). put (replicate m 0) 0 s) (sym (sub-zero n)) ∙ put_padded n 0 [] s
