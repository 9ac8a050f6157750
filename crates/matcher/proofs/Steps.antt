-- Steps of the loops, and what a log's entries are.
use mathlib.Core.Path.{fun_ext}
use Rattle.std.proofs.Common.{◌≡◌, refl, sym, ap, ◌∙◌, Bool, true, false, cond, not, List, [], ◌∷◌, zip, ◌⊎◌, inl, inr, ℕ, zero, suc, ◌+◌, ◌≤◌, ◌<◌, add-one, add-zero, zero-add, arith, lt-ltb, le-ltb, ltb-false, ltb, length, length-take-le, take, drop, get_or, set, replicate, drop_of_length-le, drop-cons, get_or-set_same, get_or-set_other, Option, Some, None}
use Rattle.std.specs.List.{position_from}
use Rattle.std.proofs.lemmas.Slice.Zip.{length-zip, get_or-zip}
use Rattle.frames.specs.declared.CanFrame.{CanFrame}
use Rattle.matcher.specs.declared.FrameLog.{FrameLog}
use Rattle.matcher.specs.declared.Match.TheVariants.{Matched, StopsAt}
use Rattle.log_entries.specs.Entries.{Entry, entry, fits}
use Rattle.matcher.specs.Match.{no_entry, paired, entries_of, all_free, without, can_take, first_at, fall_from, first_fall}
use Rattle.matcher.specs.Greedy.{Sized, free_in, first_fit, greedy_from, greedy}
use Rattle.matcher.proofs.Places.{decide, first_at_lem}
use Rattle.matcher.proofs.Times.{Rising}
use Rattle.matcher.proofs.Explains.{without_same, without_other}

-- ---- the entries of a log

pub paired_length : (ts : List ℕ) (fs : List CanFrame) → length fs ≡ length ts → length (paired ts fs) ≡ length fs
unfolding paired
paired_length [] [] e = refl
paired_length [] (f ∷ fs) e = absurd (omega arith)
paired_length (t ∷ ts) [] e = absurd (omega arith)
paired_length (t ∷ ts) (f ∷ fs) e = ap suc (paired_length ts fs (omega arith))

pub paired_at : (ts : List ℕ) (fs : List CanFrame) (i : ℕ) (d : CanFrame) → i < length ts → i < length fs → get_or (paired ts fs) i no_entry ≡ entry (get_or ts i 0) (get_or fs i d)
unfolding paired
paired_at [] fs i d h k = absurd (omega arith)
paired_at (t ∷ ts) [] i d h k = absurd (omega arith)
paired_at (t ∷ ts) (f ∷ fs) zero d h k = refl
paired_at (t ∷ ts) (f ∷ fs) (suc i) d h k = paired_at ts fs i d (omega arith) (omega arith)

-- ---- the times

rising_paired : (k t : ℕ) (ts : List ℕ) (fs : List CanFrame) → fall_from k t ts ≡ None → Rising t (paired ts fs)
unfolding fall_from paired Rising
rising_paired k t [] fs h = tt
rising_paired k t (u ∷ us) [] h = tt
rising_paired k t (u ∷ us) (f ∷ fs) h = go (ltb u t) refl (rising_paired (suc k) u us fs)
  where
    go : (x : Bool) → ltb u t ≡ x → (fall_from (suc k) u us ≡ None → Rising u (paired us fs)) → (t ≤ u) × Rising u (paired us fs)
    go true e ih = let q : Some k ≡ None = rw e at h in cc
    go false e ih = (ltb-false u t e, ih (rw e at h))

-- times of which none is below the one before it
pub rising_entries : (l : FrameLog) (ts : List ℕ) → first_fall ts ≡ None → Rising 0 (entries_of l ts)
unfolding first_fall entries_of
rising_entries l ts h = rising_paired 1 0 ts (take l.count l.frames) h

-- the frames of a log that is right in size
pub sized : (l : FrameLog) (ts : List ℕ) → length l.frames ≡ 512 → l.count ≤ 512 → l.count ≡ length ts → Sized (take l.count l.frames) ts
sized l ts far few all = let n = length-take-le l.count l.frames (omega arith) in record { few = omega arith; all = omega arith }

module _ (ts : List ℕ) (i t : ℕ) (h : i < length ts) (inv : first_fall ts ≡ fall_from (suc i) t (drop i ts)) where
  fall_step : first_fall ts ≡ cond (ltb (get_or ts i 0) t) (Some (suc i)) (fall_from (suc (suc i)) (get_or ts i 0) (drop (suc i) ts))
  unfolding fall_from
  fall_step = inv ∙ rw (drop-cons ts i 0 h)

  pub fall_found : get_or ts i 0 < t → Some (i + 1) ≡ first_fall ts
  fall_found e = rw add-one (sym (fall_step ∙ rw (lt-ltb _ _ e)))

  pub fall_again : t ≤ get_or ts i 0 → first_fall ts ≡ fall_from (suc (i + 1)) (get_or ts i 0) (drop (i + 1) ts)
  fall_again e = rw add-one (fall_step ∙ rw (le-ltb _ _ e))

pub fall_end : (ts : List ℕ) (i t : ℕ) → length ts ≤ i → first_fall ts ≡ fall_from (suc i) t (drop i ts) → None ≡ first_fall ts
unfolding fall_from
fall_end ts i t h inv = sym (inv ∙ rw (drop_of_length-le ts h))

-- ---- the first entry that fits

-- the first item that passes, at the number that its test has
first_item : {X : Type 0} (test : X → Bool) (f : ℕ → Bool) (d : X) (xs : List X) (i : ℕ) → ((k : ℕ) → k < length xs → f (i + k) ≡ test (get_or xs k d)) → position_from test i xs ≡ first_at f i (length xs)
unfolding first_at
first_item test f d [] i h = refl
first_item test f d (x ∷ xs) i h =
    let here : f i ≡ test x = rw add-zero at (h 0 (omega arith)) in
    let more : position_from test (suc i) xs ≡ first_at f (suc i) (length xs) =
    first_item test f d xs (suc i) (λ k l. let e : suc i + k ≡ i + suc k = omega arith in rw e (h (suc k) (omega arith))) in
    rw (here, add-one, more)

-- what the code tests of an entry and its mark
abbrev pub takes : Entry → (CanFrame × ℕ) × Bool → Bool
takes r p = cond p.1 false (fits (entry p.0.1 p.0.0) r)

taken_or : (t u : Bool) → cond (not t) u false ≡ cond t false u
taken_or true u = refl
taken_or false u = refl

pub fit_found : (fs : List CanFrame) (ts : List ℕ) (used : List Bool) (r : Entry) → Sized fs ts → length used ≡ 512
    → position_from (takes r) 0 (zip (zip fs ts) used) ≡ first_fit (paired ts fs) (free_in used) r
unfolding first_fit can_take free_in
fit_found fs ts used r s long =
    let a = s.few in
    let b = s.all in
    let l : length (zip (zip fs ts) used) ≡ length (paired ts fs) = omega (arith, length-zip (zip fs ts) used, length-zip fs ts, paired_length ts fs b) in
    first_item (takes r) (can_take (paired ts fs) (free_in used) r) ((no_entry.frame, 0), false) (zip (zip fs ts) used) 0
    (λ k h. tests k (omega (arith, length-zip (zip fs ts) used, length-zip fs ts)))
    ∙ ap (first_at (can_take (paired ts fs) (free_in used) r) 0) l
  where
    tests : (k : ℕ) → k < length fs → can_take (paired ts fs) (free_in used) r (0 + k) ≡ takes r (get_or (zip (zip fs ts) used) k ((no_entry.frame, 0), false))
    tests k h =
        let a = s.few in
        let b = s.all in
        let p = get_or-zip (zip fs ts) used k ((no_entry.frame, 0), false) (omega (arith, length-zip fs ts)) (omega arith) in
        let q = get_or-zip fs ts k (no_entry.frame, 0) h (omega arith) in
        let e = paired_at ts fs k no_entry.frame (omega arith) h in
        rw (zero-add, p, q, e) (taken_or (get_or used k false) _)

-- the same of marks that are cut where the entries end, or not
zip_cut : {X : Type 0} (xs : List X) (used : List Bool) (n : ℕ) → length xs ≤ n → zip xs (take n used) ≡ zip xs used
zip_cut [] used n h = refl
zip_cut (x ∷ xs) [] zero h = refl
zip_cut (x ∷ xs) [] (suc n) h = refl
zip_cut (x ∷ xs) (u ∷ used) zero h = absurd (omega arith)
zip_cut (x ∷ xs) (u ∷ used) (suc n) h = ap (λ zs. (x, u) ∷ zs) (zip_cut xs used n (omega arith))

module _ (fs : List CanFrame) (ts : List ℕ) (used : List Bool) (r : Entry) (few : length fs ≤ 512) (all : length fs ≡ length ts) (long : length used ≡ 512) where
  pub fit_is : first_fit (paired ts fs) (free_in used) r ≡ position_from (takes r) 0 (zip (zip fs ts) used)
  fit_is = sym (fit_found fs ts used r (record { few = few; all = all }) long)

  pub fit_cut : first_fit (paired ts fs) (free_in used) r ≡ position_from (takes r) 0 (zip (zip fs ts) (take (length fs) used))
  fit_cut = fit_is ∙ ap (position_from (takes r) 0) (sym (zip_cut (zip fs ts) used (length fs) (omega (arith, length-zip fs ts))))

-- ---- each frame in turn

-- at first every place is free
free_none : (n k : ℕ) → free_in (replicate n false) k ≡ true
unfolding free_in
free_none zero k = refl
free_none (suc n) zero = refl
free_none (suc n) (suc k) = free_none n k

pub none_used : (n : ℕ) → free_in (replicate n false) ≡ all_free
unfolding all_free
none_used n = fun_ext (free_none n)

-- a place is marked
pub mark_free : (used : List Bool) (e : ℕ) → e < length used → free_in (set used e true) ≡ without e (free_in used)
unfolding free_in
mark_free used e h = fun_ext (λ k. go k (decide k e))
  where
    go : (k : ℕ) → (k ≡ e) ⊎ (k ≡ e → ⊥) → not (get_or (set used e true) k false) ≡ without e (free_in used) k
    go k (inl q) = rw (q, get_or-set_same used e true false h, without_same e (free_in used))
    go k (inr q) = rw (get_or-set_other used e k true false q, without_other e (free_in used) k q)

-- the place that was found is one of the journal
fit_place : (js : List Entry) (free : ℕ → Bool) (r : Entry) (e : ℕ) → first_fit js free r ≡ Some e → e < length js
unfolding first_fit
fit_place js free r e h = let w = first_at_lem (can_take js free r) 0 (length js) e h in let b = w.below in omega arith

-- what is left to do is to give entries to the frames from i on
unfoldable pub Turn : List Entry → List Entry → List Bool → ℕ → Type 0
Turn js rs used i = greedy js rs ≡ greedy_from js (free_in used) (drop i rs) i

pub turn_first : (js rs : List Entry) (n : ℕ) → Turn js rs (replicate n false) 0
unfolding Turn greedy
turn_first js rs n = rw (none_used n)

module _
    (js : List CanFrame)
    (sent : List ℕ)
    (rs : List CanFrame)
    (seen : List ℕ)
    (sj : Sized js sent)
    (sr : Sized rs seen)
    (used : List Bool)
    (i : ℕ) where
  module _
      (d : CanFrame)
      (x : Option ℕ)
      (h : i < length rs)
      (e : x ≡ first_fit (paired sent js) (free_in used) (entry (get_or seen i 0) (get_or rs i d))) where
    fit_at : first_fit (paired sent js) (free_in used) (get_or (paired seen rs) i no_entry) ≡ x
    fit_at = let a = sr.all in ap (first_fit (paired sent js) (free_in used)) (paired_at seen rs i d (omega arith) h) ∙ sym e

    here : i < length (paired seen rs)
    here = let n = paired_length seen rs sr.all in omega arith

    pub turn_place : (p : ℕ) → x ≡ Some p → p < 512
    turn_place p w =
        let k = fit_place (paired sent js) (free_in used) (get_or (paired seen rs) i no_entry) p (fit_at ∙ w) in
        let n = paired_length sent js sj.all in
        let m = sj.few in
        omega arith

    module _ (inv : Turn (paired sent js) (paired seen rs) used i) where
      pub turn_stops : x ≡ None → StopsAt (i + 1) ≡ greedy (paired sent js) (paired seen rs)
      unfolding Turn greedy_from
      turn_stops w = sym (inv ∙ rw (add-one, drop-cons (paired seen rs) i no_entry here, fit_at, w))

      pub turn_again : (p : ℕ) → length used ≡ 512 → x ≡ Some p → Turn (paired sent js) (paired seen rs) (set used p true) (i + 1)
      unfolding Turn greedy_from
      turn_again p long w =
          let k = turn_place p w in
          inv ∙ rw (add-one, mark_free used p (omega arith), drop-cons (paired seen rs) i no_entry here, fit_at, w)

  pub turns_end : length rs ≤ i → Turn (paired sent js) (paired seen rs) used i → Matched ≡ greedy (paired sent js) (paired seen rs)
  unfolding Turn greedy_from
  turns_end h inv =
      let n = paired_length seen rs sr.all in
      let past : length (paired seen rs) ≤ i = omega arith in
      sym (inv ∙ rw (drop_of_length-le (paired seen rs) past))
