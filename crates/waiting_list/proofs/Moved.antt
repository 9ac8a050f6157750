-- Laws of a list in which records move one place forward (`moved`).
use mathlib.Core.Path.{◌≡◌, refl, ap, ◌∙◌}
use mathlib.Core.List.{List, [], ◌∷◌}
use Prim.Native.Nat.{ℕ, zero, suc, ◌+◌, ◌-◌, ◌<◌, ◌≤◌, min}
use mathlib.Core.Logic.{◌⊎◌, inl, inr}
use native.Mathlib.Nat.{not-suc-le-zero, le_of_suc-le-suc, eq-or-lt_of_le}
use native.Mathlib.Numerals.{add-one}
use native.Mathlib.Omega.{arith}
use lib.ListN.{length, get_or, set}
use Rattle.waiting_list.specs.Queue.{moved}

module _ {A : Type 0} where
  -- nothing moves where the first place is not below the last
  pub moved_none : (xs : List A) (p e : ℕ) → e ≤ p → moved xs p e ≡ xs
  unfolding moved
  moved_none [] p e h = refl
  moved_none (x ∷ xs) p zero h = refl
  moved_none (x ∷ xs) (suc p) (suc e) h = ap (λ (l : List A). x ∷ l) (moved_none xs p e (le_of_suc-le-suc h))
  moved_none (x ∷ []) zero (suc e) h = refl
  moved_none (x ∷ y ∷ ys) zero (suc e) h = absurd (not-suc-le-zero h)

  -- nor past the last of the list
  pub moved_past : (xs : List A) (p e f : ℕ) → length xs ≤ suc e → e ≤ f → moved xs p e ≡ moved xs p f
  unfolding moved
  moved_past [] p e f h k = refl
  moved_past (x ∷ []) p zero zero h k = refl
  moved_past (x ∷ []) zero zero (suc f) h k = refl
  moved_past (x ∷ []) (suc p) zero (suc f) h k = refl
  moved_past (x ∷ y ∷ ys) p zero f h k = absurd (not-suc-le-zero (le_of_suc-le-suc h))
  moved_past (x ∷ xs) p (suc e) zero h k = absurd (not-suc-le-zero k)
  moved_past (x ∷ xs) (suc p) (suc e) (suc f) h k = ap (λ (l : List A). x ∷ l) (moved_past xs p e f (le_of_suc-le-suc h) (le_of_suc-le-suc k))
  moved_past (x ∷ []) zero (suc e) (suc f) h k = refl
  moved_past (x ∷ y ∷ ys) zero (suc e) (suc f) h k = ap (λ (l : List A). y ∷ l) (moved_past (y ∷ ys) zero e f (le_of_suc-le-suc h) (le_of_suc-le-suc k))

  pub moved_length : (xs : List A) (p e : ℕ) → length (moved xs p e) ≡ length xs
  unfolding moved
  moved_length [] p e = refl
  moved_length (x ∷ xs) p zero = refl
  moved_length (x ∷ xs) (suc p) (suc e) = ap suc (moved_length xs p e)
  moved_length (x ∷ []) zero (suc e) = refl
  moved_length (x ∷ y ∷ ys) zero (suc e) = ap suc (moved_length (y ∷ ys) zero e)

  -- ---- the loop

  -- the place after the last that moved is as it was
  moved_next : (xs : List A) (p e : ℕ) (d : A) → get_or (moved xs p e) (suc e) d ≡ get_or xs (suc e) d
  unfolding moved
  moved_next [] p e d = refl
  moved_next (x ∷ xs) p zero d = refl
  moved_next (x ∷ xs) (suc p) (suc e) d = moved_next xs p e d
  moved_next (x ∷ []) zero (suc e) d = refl
  moved_next (x ∷ y ∷ ys) zero (suc e) d = moved_next (y ∷ ys) zero e d

  moved_set : (xs : List A) (p e : ℕ) (d : A) → p ≤ e → suc e < length xs → set (moved xs p e) e (get_or xs (suc e) d) ≡ moved xs p (suc e)
  unfolding moved
  moved_set [] p e d h k = absurd (not-suc-le-zero k)
  moved_set (x ∷ xs) (suc p) zero d h k = absurd (not-suc-le-zero h)
  moved_set (x ∷ []) zero zero d h k = absurd (not-suc-le-zero (le_of_suc-le-suc k))
  moved_set (x ∷ y ∷ ys) zero zero d h k = refl
  moved_set (x ∷ xs) (suc p) (suc e) d h k = ap (λ (l : List A). x ∷ l) (moved_set xs p e d (le_of_suc-le-suc h) (le_of_suc-le-suc k))
  moved_set (x ∷ []) zero (suc e) d h k = absurd (not-suc-le-zero (le_of_suc-le-suc k))
  moved_set (x ∷ y ∷ ys) zero (suc e) d h k = ap (λ (l : List A). y ∷ l) (moved_set (y ∷ ys) zero e d (omega arith) (le_of_suc-le-suc k))

  -- one turn of it
  pub moved_one : (xs : List A) (p e : ℕ) (d : A) → p ≤ e → e + 1 < length xs → set (moved xs p e) e (get_or (moved xs p e) (e + 1) d) ≡ moved xs p (e + 1)
  moved_one xs p e d h k = rw add-one (ap (set (moved xs p e) e) (moved_next xs p e d) ∙ moved_set xs p e d h (rw add-one at k))

  -- sixteen places have no more to move
  pub moved_clip : (xs : List A) (p n : ℕ) → length xs ≡ 16 → moved xs p (min n 16 - 1) ≡ moved xs p (n - 1)
  moved_clip xs p n e = go (eq-or-lt_of_le {n = min n 16} {m = n} (omega arith))
    where
      go : (min n 16 ≡ n) ⊎ (min n 16 < n) → moved xs p (min n 16 - 1) ≡ moved xs p (n - 1)
      go (inl h) = ap (λ (m : ℕ). moved xs p (m - 1)) h
      go (inr h) = ap (moved xs p) (omega arith) ∙ moved_past xs p 15 (n - 1) (omega arith) (omega arith)
