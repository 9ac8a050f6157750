-- One frame fewer: where the others are, and how many stand before one of them on its bus.
use mathlib.Core.Path.{◌≡◌, refl, ap}
use mathlib.Core.Bool.{Bool, true, false, cond}
use mathlib.Core.List.{List, [], ◌∷◌, ◌++◌}
use Prim.Native.Nat.{ℕ, zero, suc, ◌+◌, ◌<◌, ◌≤◌, zero-le}
use native.Mathlib.Nat.{not-suc-le-zero, le_of_suc-le-suc}
use native.Mathlib.Omega.{arith}
use borrow.Author.Tests.{eqb-true, eq-eqb, lt-ltb}
use lib.Dec.{eqb}
use lib.ListN.{length}
use Rattle.waiting_list.specs.declared.Waiting.{Waiting}
use Rattle.waiting_list.specs.Queue.{record_at, bus_of, oldest_on, has_one}
use Rattle.waiting_list.specs.Fair.{before, gone}

-- ---- the oldest of a bus

-- it is on the bus
pub oldest_on_lem : (b : ℕ) (ws : List Waiting) → oldest_on b ws < length ws → bus_of (record_at ws (oldest_on b ws)) ≡ b
unfolding oldest_on
oldest_on_lem b [] h = absurd (not-suc-le-zero h)
oldest_on_lem b (w ∷ ws) h = go (eqb (bus_of w) b) refl h (oldest_on_lem b ws)
  where
    go : (t : Bool) → eqb (bus_of w) b ≡ t → cond t 0 (suc (oldest_on b ws)) < suc (length ws) → (oldest_on b ws < length ws → bus_of (record_at ws (oldest_on b ws)) ≡ b) → bus_of (record_at (w ∷ ws) (cond t 0 (suc (oldest_on b ws)))) ≡ b
    go true e k r = eqb-true (bus_of w) b e
    go false e k r = r (le_of_suc-le-suc k)

-- and no other on the bus stands before it
pub oldest_least : (b : ℕ) (ws : List Waiting) (p : ℕ) → p < length ws → bus_of (record_at ws p) ≡ b → oldest_on b ws ≤ p
unfolding oldest_on
oldest_least b [] p h e = absurd (not-suc-le-zero h)
oldest_least b (w ∷ ws) zero h e = rw (eq-eqb (bus_of w) b e) zero-le
oldest_least b (w ∷ ws) (suc p) h e = go (eqb (bus_of w) b) (oldest_least b ws p (le_of_suc-le-suc h) e)
  where
    go : (t : Bool) → oldest_on b ws ≤ p → cond t 0 (suc (oldest_on b ws)) ≤ suc p
    go true r = zero-le
    go false r = omega arith

pub has_one_lem : (ws : List Waiting) (p : ℕ) → p < length ws → has_one ws (bus_of (record_at ws p)) ≡ true
unfolding has_one
has_one_lem ws p h = let b = bus_of (record_at ws p) in lt-ltb (oldest_on b ws) (length ws) (omega (arith, oldest_least b ws p h refl))

-- ---- without the frame at t

pub gone_length : (t : ℕ) (ws : List Waiting) → t < length ws → length ws ≡ suc (length (gone t ws))
unfolding gone
gone_length t [] h = absurd (not-suc-le-zero h)
gone_length zero (w ∷ ws) h = refl
gone_length (suc t) (w ∷ ws) h = ap suc (gone_length t ws (le_of_suc-le-suc h))

pub gone_below : (t p : ℕ) (ws : List Waiting) → p < t → record_at (gone t ws) p ≡ record_at ws p
unfolding gone
gone_below t p [] h = refl
gone_below zero p (w ∷ ws) h = absurd (not-suc-le-zero h)
gone_below (suc t) zero (w ∷ ws) h = refl
gone_below (suc t) (suc p) (w ∷ ws) h = gone_below t p ws (le_of_suc-le-suc h)

pub gone_above : (t p : ℕ) (ws : List Waiting) → t ≤ p → record_at (gone t ws) p ≡ record_at ws (suc p)
unfolding gone
gone_above t p [] h = refl
gone_above zero p (w ∷ ws) h = refl
gone_above (suc t) zero (w ∷ ws) h = absurd (not-suc-le-zero h)
gone_above (suc t) (suc p) (w ∷ ws) h = gone_above t p ws (le_of_suc-le-suc h)

-- ---- how many stand before a place

pub before_below : (b t p : ℕ) (ws : List Waiting) → p ≤ t → before b (gone t ws) p ≡ before b ws p
unfolding before gone
before_below b t zero ws h = refl
before_below b t (suc p) [] h = refl
before_below b zero (suc p) (w ∷ ws) h = absurd (not-suc-le-zero h)
before_below b (suc t) (suc p) (w ∷ ws) h = ap (λ (m : ℕ). cond (eqb (bus_of w) b) 1 0 + m) (before_below b t p ws (le_of_suc-le-suc h))

pub before_above : (b t p : ℕ) (ws : List Waiting) → t ≤ p → t < length ws → before b ws (suc p) ≡ cond (eqb (bus_of (record_at ws t)) b) 1 0 + before b (gone t ws) p
unfolding before gone
before_above b t p [] h k = absurd (not-suc-le-zero k)
before_above b zero p (w ∷ ws) h k = refl
before_above b (suc t) zero (w ∷ ws) h k = absurd (not-suc-le-zero h)
before_above b (suc t) (suc p) (w ∷ ws) h k = let r = before_above b t p ws (le_of_suc-le-suc h) (le_of_suc-le-suc k) in omega arith

-- a frame that comes behind them changes nothing
pub before_more : (b p : ℕ) (ws vs : List Waiting) → p ≤ length ws → before b (ws ++ vs) p ≡ before b ws p
unfolding before
before_more b zero ws vs h = refl
before_more b (suc p) [] vs h = absurd (not-suc-le-zero h)
before_more b (suc p) (w ∷ ws) vs h = ap (λ (m : ℕ). cond (eqb (bus_of w) b) 1 0 + m) (before_more b p ws vs (le_of_suc-le-suc h))
