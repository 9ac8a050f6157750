-- Giving frames the first entry that fits loses nothing, where the times never fall.
use mathlib.Core.Path.{fun_ext}
use mathlib.Core.Bool.{false≢true}
use Rattle.std.proofs.Common.{◌≡◌, refl, sym, ◌∙◌, Bool, true, false, cond, List, [], ◌∷◌, ◌++◌, ◌⊎◌, inl, inr, ◌↔◌, ℕ, ◌+◌, ◌≤◌, ◌<◌, arith, eq-eqb, ne_eqb, le-leb, leb-true, ltb-true, ltb-false, eqb, ltb, length, get_or, None}
use Rattle.log_entries.specs.Entries.{Entry, fits}
use Rattle.matcher.specs.Match.{no_entry, without, can_take, explains}
use Rattle.matcher.specs.Greedy.{first_fit}
use Rattle.arrays.proofs.Laws.{both}
use Rattle.log_entries.proofs.Frames.{frame_is}
use Rattle.matcher.proofs.Places.{decide, same_truth, not_truth, some_of, some_at, First, first_none}
use Rattle.matcher.proofs.Times.{Rising, Since, rising_since, rising_at}

-- ---- what fits

pub fits_is : (j r : Entry) → fits j r ≡ true ↔ ((j.time ≤ r.time) × (r.time ≤ j.time + 50) × (j.frame ≡ r.frame))
unfolding fits
fits_is j r = (
  λ h. let p = both _ _ h in let q = both _ _ p.1 in (leb-true _ _ p.0, leb-true _ _ q.0, (frame_is j.frame r.frame).0 q.1),
  λ h. rw (le-leb _ _ h.0, le-leb _ _ h.1, (frame_is j.frame r.frame).1 h.2),
)

-- ---- marks

pub without_same : (e : ℕ) (free : ℕ → Bool) → without e free e ≡ false
unfolding without
without_same e free = rw (eq-eqb e e refl)

pub without_other : (e : ℕ) (free : ℕ → Bool) (k : ℕ) → (k ≡ e → ⊥) → without e free k ≡ free k
unfolding without
without_other e free k h = rw (ne_eqb k e h)

swap : (s t u : Bool) → cond s false (cond t false u) ≡ cond t false (cond s false u)
swap true true u = refl
swap true false u = refl
swap false true u = refl
swap false false u = refl

pub without_comm : (a b : ℕ) (free : ℕ → Bool) → without a (without b free) ≡ without b (without a free)
unfolding without
without_comm a b free = fun_ext (λ k. swap (eqb k a) (eqb k b) (free k))

-- what is free but for e was free, and is not e
pub still_free : (e : ℕ) (free : ℕ → Bool) (k : ℕ) → without e free k ≡ true → (free k ≡ true) × (k ≡ e → ⊥)
still_free e free k h =
    let apart : k ≡ e → ⊥ = λ q. false≢true (sym (without_same e free) ∙ (rw q at h)) in
    (sym (without_other e free k apart) ∙ h, apart)

-- ---- one frame

-- an entry for the first frame, with which the others can be given theirs
pub record Gives (js : List Entry) (free : ℕ → Bool) (r : Entry) (rs : List Entry) (e : ℕ) : Type 0 where
  pub place : e < length js
  pub spare : free e ≡ true
  pub fit : fits (get_or js e no_entry) r ≡ true
  pub rest : explains js (without e free) rs ≡ true

pub explains_by : (js : List Entry) (free : ℕ → Bool) (r : Entry) (rs : List Entry) (e : ℕ) → Gives js free r rs e → explains js free (r ∷ rs) ≡ true
unfolding explains can_take
explains_by js free r rs e w = some_of (length js) _ e w.place (rw (w.spare, w.fit, w.rest))

pub explains_to : (js : List Entry) (free : ℕ → Bool) (r : Entry) (rs : List Entry) → explains js free (r ∷ rs) ≡ true → (e : ℕ) × Gives js free r rs e
unfolding explains can_take
explains_to js free r rs h =
    let w = some_at (length js) _ h in
    let p = both _ _ w.2 in
    let q = both _ _ p.0 in
    (w.0, record { place = w.1; spare = q.0; fit = q.1; rest = p.1 })

-- ---- the earlier of two equal entries may go first

module _
    (js : List Entry)
    (a b : ℕ)
    (place : b < length js)
    (apart : a ≡ b → ⊥)
    (same : (get_or js a no_entry).frame ≡ (get_or js b no_entry).frame)
    (early : (get_or js a no_entry).time ≤ (get_or js b no_entry).time) where
  -- who fits the earlier one, and is not before the later one, fits that
  other_fits : (r : Entry) → (get_or js b no_entry).time ≤ r.time → fits (get_or js a no_entry) r ≡ true → fits (get_or js b no_entry) r ≡ true
  other_fits r late h =
      let p = (fits_is (get_or js a no_entry) r).0 h in
      let q = p.1 in
      (fits_is (get_or js b no_entry) r).1 (late, omega arith, sym same ∙ p.2)

  -- the frame's entry is the earlier one: take the later one
  take_other : (free : ℕ → Bool) (r : Entry) (rs : List Entry) (e : ℕ) → free b ≡ true → (get_or js b no_entry).time ≤ r.time
      → Gives js (without b free) r rs e → e ≡ a → Gives js (without a free) r rs b
  take_other free r rs e fb late w q = record {
    place = place;
    spare = without_other a free b (λ p. apart (sym p)) ∙ fb;
    fit = other_fits r late (rw q at w.fit);
    rest = rw (without_comm b a free) (rw q at w.rest);
  }

  -- it is another one: keep it
  take_same : (free : ℕ → Bool) (r : Entry) (rs : List Entry) (e : ℕ) → (e ≡ a → ⊥)
      → (explains js (without b (without e free)) rs ≡ true → explains js (without a (without e free)) rs ≡ true)
      → Gives js (without b free) r rs e → Gives js (without a free) r rs e
  take_same free r rs e q ih w = record {
    place = w.place;
    spare = without_other a free e q ∙ (still_free b free e w.spare).0;
    fit = w.fit;
    rest = rw (without_comm e a free) (ih (rw (without_comm b e free) w.rest));
  }

  pub dominates : (free : ℕ → Bool) (rs : List Entry) → free a ≡ true → free b ≡ true → Since (get_or js b no_entry).time rs
      → explains js (without b free) rs ≡ true → explains js (without a free) rs ≡ true
  unfolding explains Since
  dominates free [] fa fb late h = refl
  dominates free (r ∷ rs) fa fb late h = go (explains_to js (without b free) r rs h) (λ (more : ℕ → Bool) x y. dominates more rs x y late.1)
    where
      step : (e : ℕ) → Gives js (without b free) r rs e → (e ≡ a) ⊎ (e ≡ a → ⊥)
          → ((more : ℕ → Bool) → more a ≡ true → more b ≡ true → explains js (without b more) rs ≡ true → explains js (without a more) rs ≡ true)
          → explains js (without a free) (r ∷ rs) ≡ true
      step e w (inl q) ih = explains_by js (without a free) r rs b (take_other free r rs e fb late.0 w q)
      step e w (inr q) ih =
          let other = (still_free b free e w.spare).1 in
          let ha = without_other e free a (λ p. q (sym p)) ∙ fa in
          let hb = without_other e free b (λ p. other (sym p)) ∙ fb in
          explains_by js (without a free) r rs e (take_same free r rs e q (ih (without e free) ha hb) w)

      go : (e : ℕ) × Gives js (without b free) r rs e
          → ((more : ℕ → Bool) → more a ≡ true → more b ≡ true → explains js (without b more) rs ≡ true → explains js (without a more) rs ≡ true)
          → explains js (without a free) (r ∷ rs) ≡ true
      go w ih = step w.0 w.1 (decide w.0 a) ih

-- ---- the first entry that fits

module _ (js : List Entry) (free : ℕ → Bool) (r : Entry) (rs : List Entry) where
  takes : (e : ℕ) → Gives js free r rs e → can_take js free r e ≡ true
  unfolding can_take
  takes e w = rw (w.spare, w.fit)

  pub choose_none : first_fit js free r ≡ None → explains js free (r ∷ rs) ≡ false
  unfolding first_fit
  choose_none h = not_truth _ λ p.
      let w = explains_to js free r rs p in
      let m = w.1.place in
      false≢true (sym (first_none (can_take js free r) 0 (length js) h w.0 (omega arith) (omega arith)) ∙ takes w.0 w.1)

  module _ (s t a : ℕ) (up : Rising s js) (on : Rising t (r ∷ rs)) (h : First (can_take js free r) 0 (length js) a) where
    first_gives : (free a ≡ true) × (fits (get_or js a no_entry) r ≡ true)
    unfolding can_take
    first_gives = both _ _ h.passes

    first_place : a < length js
    first_place = let p = h.below in omega arith

    -- a later entry was given: the first one serves as well
    later : (b : ℕ) → Gives js free r rs b → (a ≡ b → ⊥) → a ≤ b → explains js (without a free) rs ≡ true
    unfolding Rising
    later b w apart le =
        let p = (fits_is _ _).0 first_gives.1 in
        let q = (fits_is _ _).0 w.fit in
        dominates js a b w.place apart (p.2 ∙ sym q.2) (rising_at s js a b up le w.place) free rs first_gives.0 w.spare
        (rising_since _ _ rs q.0 on.1) w.rest

    forth : (b : ℕ) → Gives js free r rs b → (a ≡ b) ⊎ (a ≡ b → ⊥) → explains js (without a free) rs ≡ true
    forth b w (inl q) = rw q w.rest
    forth b w (inr q) = later b w q (go (ltb b a) refl)
      where
        go : (x : Bool) → ltb b a ≡ x → a ≤ b
        go true e = absurd (false≢true (sym (h.before b (omega arith) (ltb-true b a e)) ∙ takes b w))
        go false e = ltb-false b a e

    pub choose_first : explains js free (r ∷ rs) ≡ explains js (without a free) rs
    choose_first = same_truth _ _
        (λ p. let w = explains_to js free r rs p in forth w.0 w.1 (decide a w.0))
        (λ p. explains_by js free r rs a (record { place = first_place; spare = first_gives.0; fit = first_gives.1; rest = p }))

-- ---- prefixes

-- fewer frames can be given entries if more can
pub prefixes : (js : List Entry) (free : ℕ → Bool) (rs more : List Entry) → explains js free (rs ++ more) ≡ true → explains js free rs ≡ true
unfolding explains
prefixes js free [] more h = refl
prefixes js free (r ∷ rs) more h =
    let w = explains_to js free r (rs ++ more) h in
    explains_by js free r rs w.0 (record { place = w.1.place; spare = w.1.spare; fit = w.1.fit; rest = prefixes js (without w.0 free) rs more w.1.rest })
