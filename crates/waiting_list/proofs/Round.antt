-- Going round: where a frame waits on bus b, the next bus is b, or one that stands before b past the last served.
use mathlib.Core.Path.{◌≡◌, refl, sym, ap, ◌∙◌}
use mathlib.Core.Bool.{Bool, true, false, cond, true≢false}
use mathlib.Core.List.{List, [], ◌∷◌}
use Prim.Native.Nat.{ℕ, zero, suc, ◌+◌, ◌-◌, ◌%◌, ◌<◌}
use native.Mathlib.Omega.{arith}
use borrow.Author.Tests.{eqb-true}
use lib.Dec.{eqb, ltb}
use Rattle.arrays.proofs.Laws.{both}
use Rattle.waiting_list.specs.declared.Waiting.{Waiting}
use Rattle.waiting_list.specs.Queue.{has_one, first_that, next_bus}

-- x is b, or nearer to b than the last served
abbrev pub nearer : ℕ → ℕ → ℕ → Bool
nearer last b x = cond (eqb x b) true (ltb ((b + 3 - x) % 4) ((b + 3 - last) % 4))

-- a test passes on all up to b, which is among them
abbrev all_to : (ℕ → Bool) → ℕ → List ℕ → ℕ → Bool
all_to q b [] d = cond (q d) (eqb d b) false
all_to q b (x ∷ xs) d = cond (q x) (cond (eqb x b) true (all_to q b xs d)) false

-- what is found among them passes both tests
found : (h q : ℕ → Bool) (b : ℕ) → h b ≡ true → (bs : List ℕ) (d : ℕ) → all_to q b bs d ≡ true → (h (first_that h bs d) ≡ true) × (q (first_that h bs d) ≡ true)
unfolding first_that
found h q b hb [] d e = let p = both (q d) (eqb d b) e in (ap h (eqb-true d b p.1) ∙ hb, p.0)
found h q b hb (x ∷ xs) d e = go (found h q b hb xs d) (h x) refl
  where
    p : (q x ≡ true) × (cond (eqb x b) true (all_to q b xs d) ≡ true)
    p = both (q x) (cond (eqb x b) true (all_to q b xs d)) e

    later : (s : Bool) → eqb x b ≡ s → h x ≡ false → cond s true (all_to q b xs d) ≡ true → all_to q b xs d ≡ true
    later true w hx r = absurd (true≢false (sym hb ∙ ap h (sym (eqb-true x b w)) ∙ hx))
    later false w hx r = r

    go : (all_to q b xs d ≡ true → (h (first_that h xs d) ≡ true) × (q (first_that h xs d) ≡ true)) → (s : Bool) → h x ≡ s → (h (cond s x (first_that h xs d)) ≡ true) × (q (cond s x (first_that h xs d)) ≡ true)
    go k true hx = (hx, p.0)
    go k false hx = k (later (eqb x b) refl hx p.1)

-- ---- the four buses

below_4 : (P : ℕ → Type 0) → P 0 → P 1 → P 2 → P 3 → (n : ℕ) → n < 4 → P n
below_4 P a b c d zero h = a
below_4 P a b c d (suc zero) h = b
below_4 P a b c d (suc (suc zero)) h = c
below_4 P a b c d (suc (suc (suc zero))) h = d
below_4 P a b c d (suc (suc (suc (suc n)))) h = absurd (omega arith)

abbrev Near : ℕ → ℕ → Type 0
Near last b = all_to (nearer last b) b ((last + 1) % 4 ∷ (last + 2) % 4 ∷ (last + 3) % 4 ∷ []) (last % 4) ≡ true

near : (last b : ℕ) → last < 4 → b < 4 → Near last b
near last b h k =
    below_4 (λ (m : ℕ). Near m b)
    (below_4 (Near 0) refl refl refl refl b k)
    (below_4 (Near 1) refl refl refl refl b k)
    (below_4 (Near 2) refl refl refl refl b k)
    (below_4 (Near 3) refl refl refl refl b k)
    last h

pub next_nearer : (ws : List Waiting) (last b : ℕ) → last < 4 → b < 4 → has_one ws b ≡ true → (has_one ws (next_bus last ws) ≡ true) × (nearer last b (next_bus last ws) ≡ true)
unfolding next_bus
next_nearer ws last b h k e = found (has_one ws) (nearer last b) b e _ _ (near last b h k)
