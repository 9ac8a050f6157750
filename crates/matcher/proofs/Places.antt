-- A place at which a test passes: some place below n, and the first one.
use mathlib.Core.Bool.{false≢true}
use Rattle.std.proofs.Common.{◌≡◌, refl, Bool, true, false, cond, ◌⊎◌, inl, inr, ℕ, zero, suc, ◌+◌, ◌≤◌, ◌<◌, arith, eqb, eqb-true, Some, None}
use borrow.Author.Tests.{eqb-false}
use Rattle.matcher.specs.Match.{some_below, first_at}
use Rattle.arrays.proofs.Laws.{cond_same}

-- two numbers are equal, or not
pub decide : (a b : ℕ) → (a ≡ b) ⊎ (a ≡ b → ⊥)
decide a b = go (eqb a b) refl
  where
    go : (t : Bool) → eqb a b ≡ t → (a ≡ b) ⊎ (a ≡ b → ⊥)
    go true e = inl (eqb-true a b e)
    go false e = inr (eqb-false a b e)

-- two tests of which each is true if the other is
pub same_truth : (s t : Bool) → (s ≡ true → t ≡ true) → (t ≡ true → s ≡ true) → s ≡ t
same_truth true true f g = refl
same_truth true false f g = absurd (false≢true (f refl))
same_truth false true f g = absurd (false≢true (g refl))
same_truth false false f g = refl

pub not_truth : (t : Bool) → (t ≡ true → ⊥) → t ≡ false
not_truth true h = absurd (h refl)
not_truth false h = refl

-- ---- some place

some_step : (n : ℕ) (f : ℕ → Bool) (e : ℕ) → e < suc n → f e ≡ true → (e < n → some_below n f ≡ true) → (e ≡ n) ⊎ (e ≡ n → ⊥) → cond (f n) true (some_below n f) ≡ true
some_step n f e h t ih (inl q) = rw (← q, t)
some_step n f e h t ih (inr q) = rw (ih (omega arith)) (cond_same (f n) true)

pub some_of : (n : ℕ) (f : ℕ → Bool) (e : ℕ) → e < n → f e ≡ true → some_below n f ≡ true
unfolding some_below
some_of zero f e h t = absurd (omega arith)
some_of (suc n) f e h t = some_step n f e h t (λ k. some_of n f e k t) (decide e n)

pub some_at : (n : ℕ) (f : ℕ → Bool) → some_below n f ≡ true → (e : ℕ) × (e < n) × (f e ≡ true)
unfolding some_below
some_at zero f h = absurd (false≢true h)
some_at (suc n) f h = go (f n) refl (some_at n f)
  where
    go : (s : Bool) → f n ≡ s → (some_below n f ≡ true → (e : ℕ) × (e < n) × (f e ≡ true)) → (e : ℕ) × (e < suc n) × (f e ≡ true)
    go true p ih = (n, omega arith, p)
    go false p ih = let w = ih (rw p at h) in (w.0, omega arith, w.2)

-- ---- the first place

-- at the first place the test passes, and before it never
pub record First (f : ℕ → Bool) (k n a : ℕ) : Type 0 where
  pub from : k ≤ a
  pub below : a < k + n
  pub passes : f a ≡ true
  pub before : (b : ℕ) → k ≤ b → b < a → f b ≡ false

first_later : (f : ℕ → Bool) (k n a : ℕ) → f k ≡ false → First f (suc k) n a → First f k (suc n) a
first_later f k n a e w = record {
  from = omega arith;
  below = omega arith;
  passes = w.passes;
  before = λ b h l. go b l (decide b k) h;
}
  where
    go : (b : ℕ) → b < a → (b ≡ k) ⊎ (b ≡ k → ⊥) → k ≤ b → f b ≡ false
    go b l (inl q) h = rw q e
    go b l (inr q) h = w.before b (omega arith) l

first_here : (f : ℕ → Bool) (k n a : ℕ) → f k ≡ true → k ≡ a → First f k (suc n) a
first_here f k n a e q = record {
  from = omega arith;
  below = omega arith;
  passes = rw (← q) e;
  before = λ b h l. absurd (omega arith);
}

pub first_at_lem : (f : ℕ → Bool) (k n a : ℕ) → first_at f k n ≡ Some a → First f k n a
unfolding first_at
first_at_lem f k zero a h = cc
first_at_lem f k (suc n) a h = go (f k) refl (first_at_lem f (suc k) n a)
  where
    go : (s : Bool) → f k ≡ s → (first_at f (suc k) n ≡ Some a → First f (suc k) n a) → First f k (suc n) a
    go true p ih = let q : Some k ≡ Some a = rw p at h in first_here f k n a p (cc)
    go false p ih = first_later f k n a p (ih (rw p at h))

pub first_none : (f : ℕ → Bool) (k n : ℕ) → first_at f k n ≡ None → (b : ℕ) → k ≤ b → b < k + n → f b ≡ false
unfolding first_at
first_none f k zero h b l u = absurd (omega arith)
first_none f k (suc n) h b l u = go (f k) refl (first_none f (suc k) n)
  where
    other : f k ≡ false → (b ≡ k) ⊎ (b ≡ k → ⊥) → (suc k ≤ b → f b ≡ false) → f b ≡ false
    other p (inl q) ih = rw q p
    other p (inr q) ih = ih (omega arith)

    go : (s : Bool) → f k ≡ s → (first_at f (suc k) n ≡ None → (b : ℕ) → suc k ≤ b → b < suc k + n → f b ≡ false) → f b ≡ false
    go true p ih = let q : Some k ≡ None = rw p at h in cc
    go false p ih = other p (decide b k) (λ m. ih (rw p at h) b m (omega arith))

pub none_first : (f : ℕ → Bool) (k n : ℕ) → ((b : ℕ) → k ≤ b → b < k + n → f b ≡ false) → first_at f k n ≡ None
unfolding first_at
none_first f k zero h = refl
none_first f k (suc n) h = rw (h k (omega arith) (omega arith)) (none_first f (suc k) n (λ b l u. h b (omega arith) (omega arith)))
