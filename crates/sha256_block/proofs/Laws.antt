-- Laws of 6.2.2: the schedule, the rounds and the sums, one step at a time.
use Rattle.std.proofs.Common.{◌≡◌, ℕ, zero, suc, ◌+◌, ◌-◌, ◌<◌, ◌≤◌, List, [], ◌∷◌, ◌++◌, length, get_or, take, set, sym, refl, ap, ◌∙◌, ap₂, add-one, arith, length-set, take_all, get_or-set_other, get_or-take, take-suc-set, le-ltb, lt-ltb}
use Rattle.sha256_block.specs.Block.{◌⊞◌, σ₀, σ₁, K, W, next, round, rounds, plus}

-- ---- the schedule, a word at a time

W-step : (m : ℕ → ℕ) (w : List ℕ) (t v : ℕ) → t < length w → take t w ≡ W m t → v ≡ next m (W m t) t → take (t + 1) (set w t v) ≡ W m (t + 1)
unfolding W
W-step m w t v h e f = rw add-one (take-suc-set w t v h ∙ ap₂ (λ (x : List ℕ) (y : ℕ). x ++ y ∷ []) e f)

W-first : (m : ℕ → ℕ) (w : List ℕ) (t v : ℕ) → t < 16 → t < length w → take t w ≡ W m t → v ≡ m t → take (t + 1) (set w t v) ≡ W m (t + 1)
W-first m w t v l h e f = W-step m w t v h e (f ∙ simp (lt-ltb t 16 l))

-- what a word of the schedule is made of: the words 2, 7, 15 and 16 places back
abbrev back : List ℕ → ℕ → ℕ
back w t = σ₁ (get_or w (t - 2) 0) ⊞ get_or w (t - 7) 0 ⊞ σ₀ (get_or w (t - 15) 0) ⊞ get_or w (t - 16) 0

back_take : (w : List ℕ) (t : ℕ) → 16 ≤ t → back w t ≡ back (take t w) t
back_take w t l =
    let a : get_or (take t w) (t - 2) 0 ≡ get_or w (t - 2) 0 = get_or-take t w (t - 2) 0 (omega arith) in
    let b : get_or (take t w) (t - 7) 0 ≡ get_or w (t - 7) 0 = get_or-take t w (t - 7) 0 (omega arith) in
    let c : get_or (take t w) (t - 15) 0 ≡ get_or w (t - 15) 0 = get_or-take t w (t - 15) 0 (omega arith) in
    let d : get_or (take t w) (t - 16) 0 ≡ get_or w (t - 16) 0 = get_or-take t w (t - 16) 0 (omega arith) in
    cc

W-later : (m : ℕ → ℕ) (w : List ℕ) (t v : ℕ) → 16 ≤ t → t < length w → take t w ≡ W m t → v ≡ back w t → take (t + 1) (set w t v) ≡ W m (t + 1)
W-later m w t v l h e f = W-step m w t v h e (f ∙ back_take w t l ∙ ap (λ (u : List ℕ). back u t) e ∙ simp (le-ltb t 16 l))

-- ---- the rounds, one at a time

rounds_step : (w s v : List ℕ) (t : ℕ) → v ≡ rounds w s t → round (get_or K t 0) (get_or w t 0) v ≡ rounds w s (t + 1)
unfolding rounds
rounds_step w s v t e = rw add-one (ap (λ (u : List ℕ). round (get_or K t 0) (get_or w t 0) u) e)

-- the rounds so far look only at the words so far
rounds_set : (w s : List ℕ) (t j x : ℕ) → t ≤ j → rounds (set w j x) s t ≡ rounds w s t
unfolding rounds
rounds_set w s zero j x h = refl
rounds_set w s (suc t) j x h =
    ap₂ (λ (y : ℕ) (v : List ℕ). round (get_or K t 0) y v) (get_or-set_other w j t x 0 (λ (e : t ≡ j). omega (arith, h, e))) (rounds_set w s t j x (omega (arith, h)))

-- ---- schedule and rounds together: the first t words of w are those of the schedule, and v is the working variables after t rounds

unfoldable pub Held : (ℕ → ℕ) → List ℕ → List ℕ → List ℕ → ℕ → Type 0
Held m s w v t = (length w ≡ 64) × (take t w ≡ W m t) × (v ≡ rounds w s t)

pub held_none : (m : ℕ → ℕ) (s w : List ℕ) → length w ≡ 64 → Held m s w s 0
unfolding Held W rounds
held_none m s w h = (h, refl, refl)

pub held_all : (m : ℕ → ℕ) (s w v : List ℕ) → Held m s w v 64 → v ≡ rounds (W m 64) s 64
unfolding Held
held_all m s w v h = h.2 ∙ ap (λ (x : List ℕ). rounds x s 64) (sym (take_all 64 w (omega (arith, h.0))) ∙ h.1)

round_is : (s k w v v' : List ℕ) (t x : ℕ) → k ≡ K → v ≡ rounds w s t → v' ≡ round (get_or k t 0) (get_or (set w t x) t 0) v → v' ≡ rounds (set w t x) s (t + 1)
round_is s k w v v' t x hk hv e =
    e
    ∙ ap (λ (l : List ℕ). round (get_or l t 0) (get_or (set w t x) t 0) v) hk
    ∙ rounds_step (set w t x) s v t (hv ∙ sym (rounds_set w s t t x (omega arith)))

first_at_lem : (m : ℕ → ℕ) (s k w v v' : List ℕ) (t : ℕ) → t < 16 → k ≡ K → Held m s w v t
    → v' ≡ round (get_or k t 0) (get_or (set w t (m t)) t 0) v → Held m s (set w t (m t)) v' (t + 1)
unfolding Held
first_at_lem m s k w v v' t l hk h e =
    (length-set w t (m t) ∙ h.0, W-first m w t (m t) l (omega (arith, h.0)) h.1 refl, round_is s k w v v' t (m t) hk h.2 e)

pub held_first : (m : ℕ → ℕ) (s k w w' v v' : List ℕ) (t t' : ℕ) → t < 16 → k ≡ K → t' ≡ t + 1 → Held m s w v t → w' ≡ set w t (m t)
    → v' ≡ round (get_or k t 0) (get_or w' t 0) v → Held m s w' v' t'
held_first m s k w w' v v' t t' l hk ht h f e =
    rw (ht, f) (first_at_lem m s k w v v' t l hk h (e ∙ ap (λ (x : List ℕ). round (get_or k t 0) (get_or x t 0) v) f))

later_at : (m : ℕ → ℕ) (s k w v v' : List ℕ) (t : ℕ) → 16 ≤ t → t < 64 → k ≡ K → Held m s w v t
    → v' ≡ round (get_or k t 0) (get_or (set w t (back w t)) t 0) v → Held m s (set w t (back w t)) v' (t + 1)
unfolding Held
later_at m s k w v v' t l u hk h e =
    (length-set w t (back w t) ∙ h.0, W-later m w t (back w t) l (omega (arith, h.0)) h.1 refl, round_is s k w v v' t (back w t) hk h.2 e)

pub held_later : (m : ℕ → ℕ) (s k w w' v v' : List ℕ) (t t' : ℕ) → 16 ≤ t → t < 64 → k ≡ K → t' ≡ t + 1 → Held m s w v t → w' ≡ set w t (back w t)
    → v' ≡ round (get_or k t 0) (get_or w' t 0) v → Held m s w' v' t'
held_later m s k w w' v v' t t' l u hk ht h f e =
    rw (ht, f) (later_at m s k w v v' t l u hk h (e ∙ ap (λ (x : List ℕ). round (get_or k t 0) (get_or x t 0) v) f))

-- ---- the sums of step 4

pub plus_all : (v s r : List ℕ) → length s ≡ length v → length r ≡ length v → ((i : ℕ) → i < length v → get_or r i 0 ≡ get_or v i 0 ⊞ get_or s i 0) → r ≡ plus v s
plus_all [] s [] hs hr each = refl
plus_all [] s (z ∷ r) hs hr each = absurd (omega (arith, hr))
plus_all (x ∷ v) s [] hs hr each = absurd (omega (arith, hr))
plus_all (x ∷ v) [] (z ∷ r) hs hr each = absurd (omega (arith, hs))
plus_all (x ∷ v) (y ∷ s) (z ∷ r) hs hr each =
    ap₂ (λ (a : ℕ) (l : List ℕ). a ∷ l) (each 0 (omega arith)) (plus_all v s r (omega (arith, hs)) (omega (arith, hr)) (λ i h. each (suc i) (omega (arith, h))))
