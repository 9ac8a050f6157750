-- The list as left, place by place, and what waits in it.
use mathlib.Core.Path.{◌≡◌, refl, ap, ◌∙◌}
use mathlib.Core.Bool.{cond, ◌&&◌}
use mathlib.Core.List.{List, [], ◌∷◌, ◌++◌}
use Prim.Native.Nat.{ℕ, zero, suc, ◌-◌, ◌<◌, ◌≤◌, zero-le}
use native.Mathlib.Nat.{not-suc-le-zero, le_of_suc-le-suc}
use native.Mathlib.Numerals.{sub-one}
use native.Mathlib.Omega.{arith}
use lib.Dec.{ltb, leb, leb-zero, leb-suc-zero, leb-suc-suc}
use lib.ListN.{length, take, get_or}
use lib.Seq.{take-suc-set}
use Rattle.waiting_list.specs.declared.Waiting.{Waiting}
use Rattle.waiting_list.specs.Queue.{blank, record_at, waiting_of, moved, closed_up, with_one}
use Rattle.waiting_list.specs.Fair.{gone}
use Rattle.waiting_list.proofs.Moved.{moved_none, moved_length}

-- ---- the law `closed_up_lem`

module _ {A : Type 0} where
  moved_at : (xs : List A) (p e i : ℕ) (d : A) → e < length xs → get_or (moved xs p e) i d ≡ cond (ltb i e && leb p i) (get_or xs (suc i) d) (get_or xs i d)
  unfolding moved
  moved_at [] p e i d h = absurd (not-suc-le-zero h)
  moved_at (x ∷ xs) p zero i d h = rw (leb-suc-zero i)
  moved_at (x ∷ xs) (suc p) (suc e) zero d h = rw (leb-suc-suc 0 e, leb-zero e, leb-suc-zero p)
  moved_at (x ∷ xs) (suc p) (suc e) (suc i) d h = rw (leb-suc-suc (suc i) e, leb-suc-suc p i) (moved_at xs p e i d (le_of_suc-le-suc h))
  moved_at (x ∷ []) zero (suc e) i d h = absurd (not-suc-le-zero (le_of_suc-le-suc h))
  moved_at (x ∷ y ∷ ys) zero (suc e) zero d h = rw (leb-suc-suc 0 e, leb-zero e)
  moved_at (x ∷ y ∷ ys) zero (suc e) (suc i) d h =
      rw (leb-suc-suc (suc i) e, leb-zero (suc i)) (moved_at (y ∷ ys) zero e i d (le_of_suc-le-suc h) ∙ rw (leb-zero i))

-- the list as left: each place from p up to n - 2 holds what the next one held, and every other one what it held
pub closed_up_lem : (l : List Waiting) (p n i : ℕ) → n ≤ length l → record_at (closed_up l p n) i ≡ cond (ltb (suc i) n && leb p i) (record_at l (suc i)) (record_at l i)
unfolding closed_up
closed_up_lem l p zero i h = rw (leb-suc-zero (suc i)) (ap (λ (m : List Waiting). record_at m i) (moved_none l p (zero - 1) (omega arith)))
closed_up_lem l p (suc m) i h = rw (leb-suc-suc (suc i) m, sub-one (suc m)) (moved_at l p m i blank h)

pub closed_up_length : (l : List Waiting) (p n : ℕ) → length (closed_up l p n) ≡ length l
unfolding closed_up
closed_up_length l p n = moved_length l p (n - 1)

-- ---- what waits in it

gone_moved : (l : List Waiting) (p m : ℕ) → p ≤ m → m < length l → take m (moved l p m) ≡ gone p (take (suc m) l)
unfolding moved gone
gone_moved [] p m h k = absurd (not-suc-le-zero k)
gone_moved (x ∷ xs) zero zero h k = refl
gone_moved (x ∷ xs) (suc p) zero h k = absurd (not-suc-le-zero h)
gone_moved (x ∷ xs) (suc p) (suc m) h k = ap (λ (l : List Waiting). x ∷ l) (gone_moved xs p m (le_of_suc-le-suc h) (le_of_suc-le-suc k))
gone_moved (x ∷ []) zero (suc m) h k = absurd (not-suc-le-zero (le_of_suc-le-suc k))
gone_moved (x ∷ y ∷ ys) zero (suc m) h k = ap (λ (l : List Waiting). y ∷ l) (gone_moved (y ∷ ys) zero m zero-le (le_of_suc-le-suc k))

-- once the frame at p is taken, one fewer waits: those that did, in their order, but for that one
pub waiting_left : (l : List Waiting) (p n : ℕ) → p < n → n ≤ length l → waiting_of (closed_up l p n) (n - 1) ≡ gone p (waiting_of l n)
unfolding waiting_of closed_up
waiting_left l p zero h k = absurd (not-suc-le-zero h)
waiting_left l p (suc m) h k = rw sub-one (gone_moved l p m (le_of_suc-le-suc h) k)

-- a frame that is put in waits behind the others
pub waiting_more : (l : List Waiting) (n : ℕ) (w : Waiting) → n < length l → waiting_of (with_one l n w) (suc n) ≡ waiting_of l n ++ (w ∷ [])
unfolding waiting_of with_one
waiting_more l n w h = take-suc-set l n w h
