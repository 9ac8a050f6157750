-- A code with its digits blanked: what is left is its length and the bytes past the digits.
use mathlib.Core.Path.{◌≡◌, refl, sym, ap, ◌∙◌}
use mathlib.Core.Bool.{Bool, true, false}
use mathlib.Core.List.{List, [], ◌∷◌, ◌++◌}
use Prim.Native.Nat.{ℕ, zero, suc, ◌-◌, ◌≤◌, min}
use native.Mathlib.Nat.{sub-zero, zero-sub, suc-sub-suc}
use native.Mathlib.Omega.{arith}
use borrow.Author.Tests.{ltb-false}
use lib.Dec.{ltb}
use lib.ListN.{length, take, drop, replicate, length-append, length-take}
use Rattle.arrays.specs.Arrays.{padded}
use Rattle.std.specs.Prelude.{Option, Some, None, IfSome, unwrap_or}
use Rattle.draw.specs.Draw.{drawn}
use Rattle.draw.proofs.Theorems.{Code, code_form}
use Rattle.state.specs.Replies.{no_code}
use Rattle.answers.specs.Answers.{shown_digits}
use Rattle.two_runs.specs.Demand.{blanked}

pub blanked_length : (n : ℕ) (code : List ℕ) → length (blanked n code) ≡ length code
unfolding blanked
blanked_length zero code = refl
blanked_length (suc n) [] = refl
blanked_length (suc n) (b ∷ bs) = ap suc (blanked_length n bs)

pub blanked_past : (n : ℕ) (code : List ℕ) → drop n (blanked n code) ≡ drop n code
unfolding blanked
blanked_past zero code = refl
blanked_past (suc n) [] = refl
blanked_past (suc n) (b ∷ bs) = blanked_past n bs

-- codes that look alike have one length and the same bytes past the digits
pub same_length : (n : ℕ) (s t : List ℕ) → blanked n s ≡ blanked n t → length s ≡ length t
same_length n s t e = sym (blanked_length n s) ∙ ap length e ∙ blanked_length n t

pub same_past : (n : ℕ) (s t : List ℕ) → blanked n s ≡ blanked n t → drop n s ≡ drop n t
same_past n s t e = sym (blanked_past n s) ∙ ap (λ (l : List ℕ). drop n l) e ∙ blanked_past n t

-- and the other way round
pub blanked_as : (n : ℕ) (s t : List ℕ) → length s ≡ length t → drop n s ≡ drop n t → blanked n s ≡ blanked n t
unfolding blanked
blanked_as zero s t l e = e
blanked_as (suc n) [] [] l e = refl
blanked_as (suc n) [] (y ∷ ys) l e = absurd (omega arith)
blanked_as (suc n) (x ∷ xs) [] l e = absurd (omega arith)
blanked_as (suc n) (x ∷ xs) (y ∷ ys) l e = ap (λ (l : List ℕ). 0 ∷ l) (blanked_as n xs ys (omega arith) e)

-- ---- a challenge's digits

past_front : (n : ℕ) (s r : List ℕ) → drop n (take n s ++ r) ≡ drop (n - length (take n s)) r
past_front zero s r = refl
past_front (suc n) [] r = rw sub-zero
past_front (suc n) (x ∷ xs) r = rw suc-sub-suc (past_front n xs r)

pub blanked_shown : (n : ℕ) (s t : List ℕ) → blanked n s ≡ blanked n t → blanked n (shown_digits s n) ≡ blanked n (shown_digits t n)
unfolding shown_digits padded
blanked_shown n s t e =
    let l : length (take n s) ≡ length (take n t) = length-take n s ∙ ap (min n) (same_length n s t e) ∙ sym (length-take n t) in
    blanked_as n _ _ (rw (length-append (take n s), length-append (take n t), l)) (rw (past_front n s, past_front n t, l))

-- ---- the digits of a draw

repeat_past : (d n m : ℕ) → drop n (replicate m d) ≡ replicate (m - n) d
repeat_past d zero m = rw sub-zero
repeat_past d (suc n) zero = rw zero-sub
repeat_past d (suc n) (suc m) = rw suc-sub-suc (repeat_past d n m)

-- nine bytes, and zeros past the digits, whatever is drawn and if nothing is
pub blanked_drawn : (n : ℕ) (random : List ℕ) → blanked n (unwrap_or (drawn random n) no_code) ≡ blanked n no_code
blanked_drawn n random = go (drawn random n) (code_form random n)
  where
    go : (o : Option (List ℕ)) → IfSome o (Code n) → blanked n (unwrap_or o no_code) ≡ blanked n no_code
    go None f = refl
    go (Some c) f = blanked_as n c no_code f.long (f.past ∙ sym (repeat_past 0 n 9))
