-- What the definition of specs/ means, for every code length n up to 9: the limit, the codes and their number of ways, the
-- form of a code, and when there is one.
use Rattle.std.proofs.Common.{◌≡◌, refl, ◌↔◌, Bool, true, false, cond, Option, Some, None, is_some, IfSome, List, [], ◌∷◌, ◌++◌, ℕ, zero, suc, ◌+◌, ◌-◌, ◌*◌, ◌/◌, ◌%◌, ◌^◌, ◌≤◌, ◌<◌, add-one, arith, ltb, lt-ltb, le-ltb, length, drop, get_or, replicate}
use Rattle.std.proofs.Math.Nat.{div-add-mod', div-lt_iff_lt-mul, le-div_iff_mul-le, mod-lt, mod-eq_of_lt, div-eq_of_lt, mul-add-div_right, mul-add-mod_self_right, pow-suc, eq-or-lt_of_le, mul-le-mul_right, mul-pos}
use Rattle.std.proofs.Math.Numerals.{add-two, add-three}
use Rattle.std.proofs.Math.ListN.{get_or-append}
use Rattle.std.proofs.Math.Seq.{get_or-append_seam}
use Rattle.std.proofs.lemmas.List.{drop_at}
use Rattle.std.proofs.Common.{ltb-true, ltb-false}
use Rattle.std.proofs.lemmas.Bool.{false≢true}
use Rattle.std.proofs.Math.Logic.{⊎_elim}
use Rattle.arrays.specs.Arrays.{padded}
use Rattle.arrays.proofs.Laws.{padded_length}
use Rattle.draw.specs.Draw.{group, group_at, first_below, digits, draw_limit, code_of, drawn}
use Rattle.draw.proofs.Laws.{ten_pos, ten_small, digits_length}

-- ---- the limit

-- how many groups below the limit there are for each code
abbrev pub ways : ℕ → ℕ
ways n = 4294967295 / 10 ^ n

-- the limit is a multiple of 10^n
pub limit_multiple : (n : ℕ) → draw_limit n ≡ ways n * 10 ^ n
unfolding draw_limit
limit_multiple n = let e = div-add-mod' 4294967295 (10 ^ n) in omega arith

pub limit_most : (n : ℕ) → draw_limit n ≤ 4294967295
unfolding draw_limit
limit_most n = omega arith

pub limit_positive : (n : ℕ) → n ≤ 9 → 0 < draw_limit n
limit_positive n h =
    let one : 1 ≤ ways n = (le-div_iff_mul-le (ten_pos n)).1 (omega (arith, ten_small n h)) in
    rw (limit_multiple n) (mul-pos one (ten_pos n))

-- ---- each code has the same number of ways

-- for each v below 10^n and each k below `ways n`, the value k * 10^n + v is below the limit, and gives v and k back
pub way_below : (n v k : ℕ) → v < 10 ^ n → k < ways n
    → (k * 10 ^ n + v < draw_limit n) × ((k * 10 ^ n + v) % 10 ^ n ≡ v) × ((k * 10 ^ n + v) / 10 ^ n ≡ k)
way_below n v k hv hk =
    let more : suc k * 10 ^ n ≤ ways n * 10 ^ n = mul-le-mul_right (10 ^ n) hk in (
      rw (limit_multiple n) (omega arith),
      rw (mul-add-mod_self_right k (10 ^ n) v, mod-eq_of_lt hv),
      rw (mul-add-div_right (ten_pos n) k v, div-eq_of_lt hv) (omega arith),
    )

-- and each value below the limit is of that form
pub way_only : (n g : ℕ) → g < draw_limit n → (g / 10 ^ n < ways n) × (g % 10 ^ n < 10 ^ n) × (g / 10 ^ n * 10 ^ n + g % 10 ^ n ≡ g)
way_only n g h =
    ((div-lt_iff_lt-mul (ten_pos n)).1 (rw (limit_multiple n) at h), mod-lt g (ten_pos n), div-add-mod' g (10 ^ n))

within : (random : List ℕ) (n : ℕ) → n ≤ 9 → drawn random n ≡ code_of n (first_below (draw_limit n) random)
unfolding drawn
within random n h = rw (le-ltb 9 n h)

-- a group of that value draws the digits of v, whatever follows it
pub way_draws : (n v k a b c d : ℕ) (r : List ℕ) → n ≤ 9 → v < 10 ^ n → k < ways n → group a b c d ≡ k * 10 ^ n + v
    → drawn (a ∷ b ∷ c ∷ d ∷ r) n ≡ Some (padded 9 0 (digits v n))
unfolding first_below
way_draws n v k a b c d r h hv hk e =
    let w = way_below n v k hv hk in
    rw (within (a ∷ b ∷ c ∷ d ∷ r) n h, e, lt-ltb (k * 10 ^ n + v) (draw_limit n) w.0, w.1)

-- a group at or above the limit is passed over
pub passed_over : (n a b c d : ℕ) (r : List ℕ) → draw_limit n ≤ group a b c d → drawn (a ∷ b ∷ c ∷ d ∷ r) n ≡ drawn r n
unfolding drawn first_below
passed_over n a b c d r h = rw (le-ltb (group a b c d) (draw_limit n) h)

-- each number of 32 bits is the group of its own four bytes, and of no others
pub group_bytes : (g : ℕ) → g < 4294967296 → group (g % 256) (g / 256 % 256) (g / 65536 % 256) (g / 16777216) ≡ g
unfolding group
group_bytes g h = omega arith

pub bytes_group : (a b c d : ℕ) → a < 256 → b < 256 → c < 256
    → (group a b c d % 256 ≡ a) × (group a b c d / 256 % 256 ≡ b) × (group a b c d / 65536 % 256 ≡ c) × (group a b c d / 16777216 ≡ d)
unfolding group
bytes_group a b c d ha hb hc = (omega arith, omega arith, omega arith, omega arith)

-- ---- the digits

-- the number that ASCII digits write, first digit first
unfoldable pub number : ℕ → List ℕ → ℕ
number m [] = m
number m (d ∷ ds) = number (m * 10 + (d - 48)) ds

number_last : (m : ℕ) (ds : List ℕ) (d : ℕ) → number m (ds ++ d ∷ []) ≡ number m ds * 10 + (d - 48)
unfolding number
number_last m [] d = refl
number_last m (e ∷ ds) d = number_last (m * 10 + (e - 48)) ds d

-- n digits write the number that they were made of, so different numbers give different codes
pub digits_number : (v n : ℕ) → v < 10 ^ n → number 0 (digits v n) ≡ v
unfolding number digits
digits_number v zero h = omega arith
digits_number v (suc k) h =
    let q : v / 10 < 10 ^ k = (div-lt_iff_lt-mul {k = 10} (omega arith)).1 (rw pow-suc at h) in
    let e = div-add-mod' v 10 in
    rw (number_last 0 (digits (v / 10) k) (48 + v % 10), digits_number (v / 10) k q) (omega arith)

digits_range : (v n i : ℕ) → i < n → (48 ≤ get_or (digits v n) i 0) × (get_or (digits v n) i 0 ≤ 57)
unfolding digits
digits_range v zero i h = absurd (omega arith)
digits_range v (suc k) i h =
    let d = digits (v / 10) k in
    let far = digits_length (v / 10) k in
    let q : i ≤ k = omega arith in
    ⊎_elim
    (λ e. let z : i ≡ length d = omega arith in
    let m = mod-lt v {m = 10} (omega arith) in
    rw (z, get_or-append_seam d (48 + v % 10) [] 0) (omega arith, omega arith))
    (λ p. rw (get_or-append d ((48 + v % 10) ∷ []) 0 i (omega arith)) (digits_range (v / 10) k i p))
    (eq-or-lt_of_le q)

-- ---- the form of a code

-- n ASCII digits, and zeros past them
pub record Code (n : ℕ) (code : List ℕ) : Type 0 where
  pub long : length code ≡ 9
  pub digit : (i : ℕ) → i < n → (48 ≤ get_or code i 0) × (get_or code i 0 ≤ 57)
  pub past : drop n code ≡ replicate (9 - n) 0

digits_code : (v n : ℕ) → n ≤ 9 → Code n (padded 9 0 (digits v n))
unfolding padded
digits_code v n h =
    let far = digits_length v n in
    record {
      long = padded_length 9 0 (digits v n) (omega arith);
      digit = λ i p. rw (get_or-append (digits v n) (replicate (9 - length (digits v n)) 0) 0 i (omega arith)) (digits_range v n i p);
      past = rw (drop_at (digits v n) (replicate (9 - length (digits v n)) 0) n far, far);
    }

found_code : (n : ℕ) (found : Option ℕ) → n ≤ 9 → IfSome (code_of n found) (Code n)
found_code n (Some v) h = digits_code (v % 10 ^ n) n h
found_code n None h = tt

-- a draw that gives a code gives n digits
pub code_form : (random : List ℕ) (n : ℕ) → IfSome (drawn random n) (Code n)
unfolding drawn
code_form random n = go (ltb 9 n) refl
  where
    go : (above : Bool) → ltb 9 n ≡ above → IfSome (drawn random n) (Code n)
    go true e = rw e tt
    go false e = let h = ltb-false 9 n e in rw (within random n h) (found_code n (first_below (draw_limit n) random) h)

-- ---- when there is a code

-- some whole group of s, from the front, is below l
abbrev pub Below : ℕ → List ℕ → Type 0
Below l s = (j : ℕ) × (4 * j + 3 < length s) × (group_at s (4 * j) < l)

below_more : (l a b c d : ℕ) (r : List ℕ) → Below l r → Below l (a ∷ b ∷ c ∷ d ∷ r)
below_more l a b c d r w =
    let e : 4 * suc w.0 ≡ suc (suc (suc (suc (4 * w.0)))) = omega arith in
    (suc w.0, omega arith, rw (e, add-one, add-two, add-three) (rw (add-one, add-two, add-three) at w.2))

-- a group below l that stands past the first group
below_less : (l a b c d : ℕ) (r : List ℕ) (j : ℕ) → 4 * suc j + 3 < length (a ∷ b ∷ c ∷ d ∷ r)
    → group_at (a ∷ b ∷ c ∷ d ∷ r) (4 * suc j) < l → Below l r
below_less l a b c d r j h p =
    let e : 4 * suc j ≡ suc (suc (suc (suc (4 * j)))) = omega arith in
    (j, omega arith, rw (add-one, add-two, add-three) (rw (e, add-one, add-two, add-three) at p))

found_below : (l : ℕ) (s : List ℕ) → is_some (first_below l s) ≡ true → Below l s
unfolding first_below
found_below l [] h = absurd (false≢true h)
found_below l (a ∷ []) h = absurd (false≢true h)
found_below l (a ∷ b ∷ []) h = absurd (false≢true h)
found_below l (a ∷ b ∷ c ∷ []) h = absurd (false≢true h)
found_below l (a ∷ b ∷ c ∷ d ∷ r) h = here (ltb (group a b c d) l) refl (found_below l r) h
  where
    here : (t : Bool) → ltb (group a b c d) l ≡ t → (is_some (first_below l r) ≡ true → Below l r)
        → is_some (cond t (Some (group a b c d)) (first_below l r)) ≡ true → Below l (a ∷ b ∷ c ∷ d ∷ r)
    here true e f h = (0, omega arith, ltb-true (group a b c d) l e)
    here false e f h = below_more l a b c d r (f h)

below_found : (l : ℕ) (s : List ℕ) (j : ℕ) → 4 * j + 3 < length s → group_at s (4 * j) < l → is_some (first_below l s) ≡ true
unfolding first_below
below_found l [] j h p = absurd (omega arith)
below_found l (a ∷ []) j h p = absurd (omega arith)
below_found l (a ∷ b ∷ []) j h p = absurd (omega arith)
below_found l (a ∷ b ∷ c ∷ []) j h p = absurd (omega arith)
below_found l (a ∷ b ∷ c ∷ d ∷ r) zero h p = rw (lt-ltb (group a b c d) l p)
below_found l (a ∷ b ∷ c ∷ d ∷ r) (suc j) h p =
    let w = below_less l a b c d r j h p in
    either (ltb (group a b c d) l) (below_found l r w.0 w.1 w.2)
  where
    either : (t : Bool) → is_some (first_below l r) ≡ true → is_some (cond t (Some (group a b c d)) (first_below l r)) ≡ true
    either true q = refl
    either false q = q

code_some : (n : ℕ) (found : Option ℕ) → is_some (code_of n found) ≡ is_some found
code_some n (Some v) = refl
code_some n None = refl

-- a draw gives a code exactly if some whole group is below the draw limit
pub ok_exactly : (random : List ℕ) (n : ℕ) → n ≤ 9 → is_some (drawn random n) ≡ true ↔ Below (draw_limit n) random
ok_exactly random n h =
    rw (within random n h, code_some n (first_below (draw_limit n) random))
    (found_below (draw_limit n) random, λ w. below_found (draw_limit n) random w.0 w.1 w.2)
