-- Laws of the records that wait, and of the oldest of a bus among them.
use Rattle.std.proofs.Common.{◌≡◌, ◌∙◌, refl, ap, Bool, true, false, cond, ℕ, zero, suc, ◌+◌, ◌-◌, ◌%◌, ◌≤◌, ◌<◌, min, List, [], ◌∷◌, Option, Some, unwrap_or, eqb, length, take, drop, length-take, arith}
use Rattle.std.specs.List.{position_from}
use native.Mathlib.Nat.{mod-add-mod}
use borrow.Author.Tests.{lt-ltb, le-ltb}
use lib.Seq.{get_or-take}
use Rattle.waiting_list.specs.declared.Waiting.{Waiting}
use Rattle.waiting_list.specs.Queue.{blank, record_at, waiting_of, bus_of, oldest_on, has_one, first_that}

-- ---- the records that wait

pub waiting_length : (l : List Waiting) (n : ℕ) → length (waiting_of l n) ≡ min n (length l)
unfolding waiting_of
waiting_length l n = length-take n l

pub waiting_at_lem : (l : List Waiting) (n i : ℕ) → i < n → record_at (waiting_of l n) i ≡ record_at l i
unfolding waiting_of
waiting_at_lem l n i h = get_or-take n l i blank h

-- ---- the first on a bus

abbrev pub on : ℕ → Waiting → Bool
on b w = eqb (bus_of w) b

unwrap_cond : (t : Bool) (i d : ℕ) (o : Option ℕ) → unwrap_or (cond t (Some i) o) d ≡ cond t i (unwrap_or o d)
unwrap_cond true i d o = refl
unwrap_cond false i d o = refl

oldest_from : (b i d : ℕ) (ws : List Waiting) → i + length ws ≡ d → unwrap_or (position_from (on b) i ws) d ≡ i + oldest_on b ws
unfolding oldest_on
oldest_from b i d [] e = omega arith
oldest_from b i d (w ∷ ws) e =
    let k : i + 1 + length ws ≡ d = omega arith in
    unwrap_cond (on b w) i d (position_from (on b) (i + 1) ws) ∙ rw (oldest_from b (i + 1) d ws k) (later (on b w))
  where
    later : (t : Bool) → cond t i (i + 1 + oldest_on b ws) ≡ i + cond t 0 (suc (oldest_on b ws))
    later true = omega arith
    later false = omega arith

pub oldest_is : (b n : ℕ) (l : List Waiting) (r : Option ℕ) → length l ≡ 16 → r ≡ position_from (on b) 0 (take n l) → unwrap_or r (min n 16) ≡ oldest_on b (waiting_of l n)
unfolding waiting_of
oldest_is b n l r far e =
    let k : 0 + length (take n l) ≡ min n 16 = rw (length-take, far) (omega arith) in
    rw e (oldest_from b 0 (min n 16) (take n l) k ∙ omega arith)

-- ---- the buses in turn

-- those from the k-th past the last served up to the third
unfoldable pub buses : ℕ → ℕ → List ℕ
buses last k = drop (k - 1) ((last + 1) % 4 ∷ (last + 2) % 4 ∷ (last + 3) % 4 ∷ [])

buses_from : (last k : ℕ) → 1 ≤ k → k < 4 → buses last k ≡ (last + k) % 4 ∷ buses last (k + 1)
unfolding buses
buses_from last zero h j = absurd (omega arith)
buses_from last (suc zero) h j = refl
buses_from last (suc (suc zero)) h j = refl
buses_from last (suc (suc (suc zero))) h j = refl
buses_from last (suc (suc (suc (suc k)))) h j = absurd (omega arith)

module _ (ws : List Waiting) (last k a : ℕ) (is : a ≡ oldest_on ((last % 4 + k) % 4) ws) (first : 1 ≤ k) (third : k < 4) where
  on_bus : a ≡ oldest_on ((last + k) % 4) ws
  on_bus = is ∙ ap (λ (b : ℕ). oldest_on b ws) (mod-add-mod last 4 k)

  pub on_this : a < length ws → a ≡ oldest_on (first_that (has_one ws) (buses last k) (last % 4)) ws
  unfolding first_that has_one
  on_this h = rw (buses_from last k first third, ← on_bus, lt-ltb a (length ws) h) on_bus

  pub on_later : length ws ≤ a → (r : ℕ) → r ≡ oldest_on (first_that (has_one ws) (buses last (k + 1)) (last % 4)) ws → r ≡ oldest_on (first_that (has_one ws) (buses last k) (last % 4)) ws
  unfolding first_that has_one
  on_later h r e = rw (buses_from last k first third, ← on_bus, le-ltb a (length ws) h) e

pub last_one : (ws : List Waiting) (last k r : ℕ) → k ≡ 4 → r ≡ oldest_on (last % 4) ws → r ≡ oldest_on (first_that (has_one ws) (buses last k) (last % 4)) ws
unfolding first_that buses
last_one ws last k r e is = rw e is
