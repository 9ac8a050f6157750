-- RFC 3629, one character: each form of the grammar is the encoding of a scalar value, and each such encoding is of one form.
use Rattle.std.proofs.Common.{◌≡◌, refl, ◌∙◌, ◌⊎◌, inl, inr, ⊎_elim, Bool, true, false, ◌&&◌, ◌||◌, List, [], ◌∷◌, ◌++◌, ℕ, ◌+◌, ◌*◌, ◌/◌, ◌%◌, ◌≤◌, ◌<◌, arith, le-leb, leb-true, leb-false, eqb-true, eq-eqb, ne_eqb, leb, eqb, length}
use Rattle.std.proofs.Math.Bool.{false≢true}
use borrow.Author.Tests.{lt-leb}
use mathlib.Core.Bool
use Rattle.utf8.specs.Utf8.{within, scalar, encode, utf8_tail, utf8_1, utf8_2, utf8_3, utf8_4, begins3, begins4, point2, point3, point4}
use Rattle.utf8.specs.First.{char_of, first_char, first2, first3, first4}
use Rattle.utf8.proofs.Ranges.{inside, outside, within_true}

pub and_true : (s t : Bool) → (s && t) ≡ true → (s ≡ true) × (t ≡ true)
and_true true t e = (refl, e)
and_true false t e = absurd (false≢true e)

pub or_true : (s t : Bool) → (s || t) ≡ true → (s ≡ true) ⊎ (t ≡ true)
or_true true t e = inl refl
or_true false t e = inr e

-- ---- scalar values

low : (c : ℕ) → c ≤ 0xD7FF → scalar c ≡ true
unfolding scalar
low c h = rw (inside 0 0xD7FF c (omega arith) h)

high : (c : ℕ) → 0xE000 ≤ c → c ≤ 0x10FFFF → scalar c ≡ true
unfolding scalar
high c p q = rw (outside 0 0xD7FF c (omega arith), inside 0xE000 0x10FFFF c p q)

Scalar : ℕ → Type 0
Scalar c = (c ≤ 0xD7FF) ⊎ ((0xE000 ≤ c) × (c ≤ 0x10FFFF))

scalar_true : (c : ℕ) → scalar c ≡ true → Scalar c
unfolding scalar Scalar
scalar_true c e =
    ⊎_elim (λ f. inl (within_true 0 0xD7FF c f).1) (λ f. inr (within_true 0xE000 0x10FFFF c f))
    (or_true (within 0 0xD7FF c) (within 0xE000 0x10FFFF c) e)

-- ---- the rows of the table

encode_1 : (c : ℕ) → c ≤ 0x7F → encode c ≡ c ∷ []
unfolding encode
encode_1 c h = rw (le-leb c 0x7F h)

encode_2 : (c : ℕ) → 0x7F < c → c ≤ 0x7FF → encode c ≡ (0xC0 + c / 64) ∷ (0x80 + c % 64) ∷ []
unfolding encode
encode_2 c p q = rw (lt-leb c 0x7F p, le-leb c 0x7FF q)

encode_3 : (c : ℕ) → 0x7FF < c → c ≤ 0xFFFF → encode c ≡ (0xE0 + c / 4096) ∷ (0x80 + c / 64 % 64) ∷ (0x80 + c % 64) ∷ []
unfolding encode
encode_3 c p q = rw (lt-leb c 0x7F (omega arith), lt-leb c 0x7FF p, le-leb c 0xFFFF q)

encode_4 : (c : ℕ) → 0xFFFF < c
    → encode c ≡ (0xF0 + c / 262144) ∷ (0x80 + c / 4096 % 64) ∷ (0x80 + c / 64 % 64) ∷ (0x80 + c % 64) ∷ []
unfolding encode
encode_4 c p = rw (lt-leb c 0x7F (omega arith), lt-leb c 0x7FF (omega arith), lt-leb c 0xFFFF p)

-- ---- ranges of octets

-- a from `from` to `to`, and b from `lo` to `hi`
record Pair (from to lo hi a b : ℕ) : Type 0 where
  first : from ≤ a
  last : a ≤ to
  least : lo ≤ b
  most : b ≤ hi

abbrev Tail : ℕ → Type 0
Tail c = (0x80 ≤ c) × (c ≤ 0xBF)

-- the first two octets of the forms of three and of four
abbrev Begins3 : ℕ → ℕ → Type 0
Begins3 a b = Pair 0xE0 0xE0 0xA0 0xBF a b ⊎ (Pair 0xE1 0xEC 0x80 0xBF a b ⊎ (Pair 0xED 0xED 0x80 0x9F a b ⊎ Pair 0xEE 0xEF 0x80 0xBF a b))

abbrev Begins4 : ℕ → ℕ → Type 0
Begins4 a b = Pair 0xF0 0xF0 0x90 0xBF a b ⊎ (Pair 0xF1 0xF3 0x80 0xBF a b ⊎ Pair 0xF4 0xF4 0x80 0x8F a b)

pair_true : (from to lo hi a b : ℕ) → (within from to a && within lo hi b) ≡ true → Pair from to lo hi a b
pair_true from to lo hi a b e =
    let p = and_true (within from to a) (within lo hi b) e in
    let v = within_true from to a p.0 in
    let w = within_true lo hi b p.1 in
    record { first = v.0; last = v.1; least = w.0; most = w.1 }

one_true : (k lo hi a b : ℕ) → (eqb a k && within lo hi b) ≡ true → Pair k k lo hi a b
one_true k lo hi a b e =
    let p = and_true (eqb a k) (within lo hi b) e in
    let v = eqb-true a k p.0 in
    let w = within_true lo hi b p.1 in
    record { first = omega arith; last = omega arith; least = w.0; most = w.1 }

begins3_true : (a b : ℕ) → begins3 a b ≡ true → Begins3 a b
unfolding begins3
begins3_true a b e =
    ⊎_elim
    (λ f. ⊎_elim
    (λ g. ⊎_elim (λ h. inl (one_true 0xE0 0xA0 0xBF a b h)) (λ h. inr (inl (pair_true 0xE1 0xEC 0x80 0xBF a b h))) (or_true w x g))
    (λ g. inr (inr (inl (one_true 0xED 0x80 0x9F a b g))))
    (or_true (w || x) y f))
    (λ f. inr (inr (inr (pair_true 0xEE 0xEF 0x80 0xBF a b f))))
    (or_true (w || x || y) z e)
  where
    w : Bool
    w = eqb a 0xE0 && within 0xA0 0xBF b

    x : Bool
    x = within 0xE1 0xEC a && utf8_tail b

    y : Bool
    y = eqb a 0xED && within 0x80 0x9F b

    z : Bool
    z = within 0xEE 0xEF a && utf8_tail b

begins4_true : (a b : ℕ) → begins4 a b ≡ true → Begins4 a b
unfolding begins4
begins4_true a b e =
    ⊎_elim
    (λ f. ⊎_elim (λ g. inl (one_true 0xF0 0x90 0xBF a b g)) (λ g. inr (inl (pair_true 0xF1 0xF3 0x80 0xBF a b g))) (or_true w x f))
    (λ f. inr (inr (one_true 0xF4 0x80 0x8F a b f)))
    (or_true (w || x) y e)
  where
    w : Bool
    w = eqb a 0xF0 && within 0x90 0xBF b

    x : Bool
    x = within 0xF1 0xF3 a && utf8_tail b

    y : Bool
    y = eqb a 0xF4 && within 0x80 0x8F b

is_begins3 : (a b : ℕ) → Begins3 a b → begins3 a b ≡ true
unfolding begins3
is_begins3 a b (inl p) = rw (eq-eqb a 0xE0 (omega arith), inside 0xA0 0xBF b p.least p.most)
is_begins3 a b (inr (inl p)) = rw (inside 0xE1 0xEC a p.first p.last, inside 0x80 0xBF b p.least p.most) (simp Bool.or-true)
is_begins3 a b (inr (inr (inl p))) = rw (eq-eqb a 0xED (omega arith), inside 0x80 0x9F b p.least p.most) (simp Bool.or-true)
is_begins3 a b (inr (inr (inr p))) = rw (inside 0xEE 0xEF a p.first p.last, inside 0x80 0xBF b p.least p.most) (simp Bool.or-true)

is_begins4 : (a b : ℕ) → Begins4 a b → begins4 a b ≡ true
unfolding begins4
is_begins4 a b (inl p) = rw (eq-eqb a 0xF0 (omega arith), inside 0x90 0xBF b p.least p.most)
is_begins4 a b (inr (inl p)) = rw (inside 0xF1 0xF3 a p.first p.last, inside 0x80 0xBF b p.least p.most) (simp Bool.or-true)
is_begins4 a b (inr (inr p)) = rw (eq-eqb a 0xF4 (omega arith), inside 0x80 0x8F b p.least p.most) (simp Bool.or-true)

-- ---- from the octets to the number and back

digits_2 : (a b : ℕ) → Pair 0xC0 0xDF 0x80 0xBF a b → (0xC0 + point2 a b / 64 ≡ a) × (0x80 + point2 a b % 64 ≡ b)
digits_2 a b p = omega arith

digits_3 : (a b c : ℕ) → Pair 0xE0 0xEF 0x80 0xBF a b → Tail c
    → (0xE0 + point3 a b c / 4096 ≡ a) × (0x80 + point3 a b c / 64 % 64 ≡ b) × (0x80 + point3 a b c % 64 ≡ c)
digits_3 a b c p q = omega arith

digits_4 : (a b c d : ℕ) → Pair 0xF0 0xF7 0x80 0xBF a b → Tail c → Tail d
    → (0xF0 + point4 a b c d / 262144 ≡ a) × (0x80 + point4 a b c d / 4096 % 64 ≡ b) × (0x80 + point4 a b c d / 64 % 64 ≡ c) × (0x80 + point4 a b c d % 64 ≡ d)
digits_4 a b c d p q r = omega arith

number_2 : (c : ℕ) → c ≤ 0x7FF → point2 (0xC0 + c / 64) (0x80 + c % 64) ≡ c
number_2 c h = omega arith

number_3 : (c : ℕ) → c ≤ 0xFFFF → point3 (0xE0 + c / 4096) (0x80 + c / 64 % 64) (0x80 + c % 64) ≡ c
number_3 c h = omega arith

-- all but the last six bits of a number of four octets
front_4 : (m : ℕ) → m ≤ 0x7FFF → (0xF0 + m / 4096) % 8 * 4096 + (0x80 + m / 64 % 64) % 64 * 64 + (0x80 + m % 64) % 64 ≡ m
front_4 m h = omega arith

-- six bits more
six_more : (x y z w m c : ℕ) → x * 4096 + y * 64 + z ≡ m → m * 64 + w ≡ c → x * 262144 + y * 4096 + z * 64 + w ≡ c
six_more x y z w m c p q = omega arith

number_4 : (c : ℕ) → c ≤ 0x1FFFFF → point4 (0xF0 + c / 262144) (0x80 + c / 4096 % 64) (0x80 + c / 64 % 64) (0x80 + c % 64) ≡ c
number_4 c h =
    let m = c / 64 in
    let e : c / 262144 ≡ m / 4096 = omega arith in
    let f : c / 4096 ≡ m / 64 = omega arith in
    rw (e, f)
    (six_more ((0xF0 + m / 4096) % 8) ((0x80 + m / 64 % 64) % 64) ((0x80 + m % 64) % 64) ((0x80 + c % 64) % 64) m c (front_4 m (omega arith)) (omega arith))

-- ---- each form is the encoding of a scalar value

-- c is a scalar value, and s its octets
pub record Encodes (c : ℕ) (s : List ℕ) : Type 0 where
  pub is : scalar c ≡ true
  pub octets : encode c ≡ s

pub form_1 : (a : ℕ) → utf8_1 a ≡ true → Encodes a (a ∷ [])
form_1 a e =
    let h = leb-true a 0x7F e in
    record { is = low a (omega arith); octets = encode_1 a h }

pub form_2 : (a b : ℕ) → utf8_2 a b ≡ true → Encodes (point2 a b) (a ∷ b ∷ [])
unfolding utf8_2
form_2 a b e =
    let p = pair_true 0xC2 0xDF 0x80 0xBF a b e in
    let d = digits_2 a b (omega arith) in
    record { is = low (point2 a b) (omega arith); octets = encode_2 (point2 a b) (omega arith) (omega arith) ∙ (λ i. d.0 i ∷ d.1 i ∷ []) }

three : (a b c : ℕ) → Pair 0xE0 0xEF 0x80 0xBF a b → Tail c → 0x7FF < point3 a b c → scalar (point3 a b c) ≡ true
    → Encodes (point3 a b c) (a ∷ b ∷ c ∷ [])
three a b c p q h is =
    let d = digits_3 a b c p q in
    record { is = is; octets = encode_3 (point3 a b c) h (omega arith) ∙ (λ i. d.0 i ∷ d.1 i ∷ d.2 i ∷ []) }

pub form_3 : (a b c : ℕ) → utf8_3 a b c ≡ true → Encodes (point3 a b c) (a ∷ b ∷ c ∷ [])
unfolding utf8_3
form_3 a b c e = go (begins3_true a b p.0) (within_true 0x80 0xBF c p.1)
  where
    p : (begins3 a b ≡ true) × (utf8_tail c ≡ true)
    p = and_true (begins3 a b) (utf8_tail c) e

    go : Begins3 a b → Tail c → Encodes (point3 a b c) (a ∷ b ∷ c ∷ [])
    go (inl q) t = three a b c (omega arith) t (omega arith) (low (point3 a b c) (omega arith))
    go (inr (inl q)) t = three a b c (omega arith) t (omega arith) (low (point3 a b c) (omega arith))
    go (inr (inr (inl q))) t = three a b c (omega arith) t (omega arith) (low (point3 a b c) (omega arith))
    go (inr (inr (inr q))) t = three a b c (omega arith) t (omega arith) (high (point3 a b c) (omega arith) (omega arith))

four : (a b c d : ℕ) → Pair 0xF0 0xF7 0x80 0xBF a b → Tail c → Tail d → 0xFFFF < point4 a b c d → point4 a b c d ≤ 0x10FFFF
    → Encodes (point4 a b c d) (a ∷ b ∷ c ∷ d ∷ [])
four a b c d p q r h k =
    let e = digits_4 a b c d p q r in
    record { is = high (point4 a b c d) (omega arith) k; octets = encode_4 (point4 a b c d) h ∙ (λ i. e.0 i ∷ e.1 i ∷ e.2 i ∷ e.3 i ∷ []) }

pub form_4 : (a b c d : ℕ) → utf8_4 a b c d ≡ true → Encodes (point4 a b c d) (a ∷ b ∷ c ∷ d ∷ [])
unfolding utf8_4
form_4 a b c d e = go (begins4_true a b q.0) (within_true 0x80 0xBF c q.1) (within_true 0x80 0xBF d p.1)
  where
    p : ((begins4 a b && utf8_tail c) ≡ true) × (utf8_tail d ≡ true)
    p = and_true (begins4 a b && utf8_tail c) (utf8_tail d) e

    q : (begins4 a b ≡ true) × (utf8_tail c ≡ true)
    q = and_true (begins4 a b) (utf8_tail c) p.0

    go : Begins4 a b → Tail c → Tail d → Encodes (point4 a b c d) (a ∷ b ∷ c ∷ d ∷ [])
    go (inl f) t u = four a b c d (omega arith) t u (omega arith) (omega arith)
    go (inr (inl f)) t u = four a b c d (omega arith) t u (omega arith) (omega arith)
    go (inr (inr f)) t u = four a b c d (omega arith) t u (omega arith) (omega arith)

-- ---- the encoding of a scalar value is of one form

-- no form fits that is too short for the first octet
not_2 : (a b : ℕ) → 0xDF < a → utf8_2 a b ≡ false
unfolding utf8_2
not_2 a b h = rw (outside 0xC2 0xDF a (omega arith))

not_3 : (a b c : ℕ) → 0xEF < a → utf8_3 a b c ≡ false
unfolding utf8_3 begins3
not_3 a b c h =
    rw (ne_eqb a 0xE0 (omega arith), outside 0xE1 0xEC a (omega arith), ne_eqb a 0xED (omega arith), outside 0xEE 0xEF a (omega arith))

is_2 : (a b : ℕ) → Pair 0xC2 0xDF 0x80 0xBF a b → utf8_2 a b ≡ true
unfolding utf8_2
is_2 a b p = rw (inside 0xC2 0xDF a p.first p.last, inside 0x80 0xBF b p.least p.most)

is_3 : (a b c : ℕ) → Begins3 a b → Tail c → utf8_3 a b c ≡ true
unfolding utf8_3
is_3 a b c p t = rw (is_begins3 a b p, inside 0x80 0xBF c t.0 t.1)

is_4 : (a b c d : ℕ) → Begins4 a b → Tail c → Tail d → utf8_4 a b c d ≡ true
unfolding utf8_4
is_4 a b c d p t u = rw (is_begins4 a b p, inside 0x80 0xBF c t.0 t.1, inside 0x80 0xBF d u.0 u.1)

-- which row of a form a number takes
begins3_of : (c : ℕ) → 0x7FF < c → c ≤ 0xFFFF → Scalar c → Begins3 (0xE0 + c / 4096) (0x80 + c / 64 % 64)
unfolding Scalar
begins3_of c p q (inr h) = inr (inr (inr (omega arith)))
begins3_of c p q (inl h) = go (leb c 0xFFF) (leb c 0xCFFF) refl refl
  where
    go : (x y : Bool) → leb c 0xFFF ≡ x → leb c 0xCFFF ≡ y → Begins3 (0xE0 + c / 4096) (0x80 + c / 64 % 64)
    go true y e f = inl (omega (arith, leb-true c 0xFFF e))
    go false true e f = inr (inl (omega (arith, leb-false c 0xFFF e, leb-true c 0xCFFF f)))
    go false false e f = inr (inr (inl (omega (arith, leb-false c 0xCFFF f))))

begins4_of : (c : ℕ) → 0xFFFF < c → c ≤ 0x10FFFF → Begins4 (0xF0 + c / 262144) (0x80 + c / 4096 % 64)
begins4_of c p q = go (leb c 0x3FFFF) (leb c 0xFFFFF) refl refl
  where
    go : (x y : Bool) → leb c 0x3FFFF ≡ x → leb c 0xFFFFF ≡ y → Begins4 (0xF0 + c / 262144) (0x80 + c / 4096 % 64)
    go true y e f = inl (omega (arith, leb-true c 0x3FFFF e))
    go false true e f = inr (inl (omega (arith, leb-false c 0x3FFFF e, leb-true c 0xFFFFF f)))
    go false false e f = inr (inr (omega (arith, leb-false c 0xFFFFF f)))

-- a string that begins with the encoding of c begins with the character c
Begins : ℕ → List ℕ → Type 0
Begins c s = first_char (encode c ++ s) ≡ char_of c (length (encode c))

begins_2 : (c : ℕ) (s : List ℕ) → 0x7F < c → c ≤ 0x7FF → Begins c s
unfolding Begins first_char first2
begins_2 c s p q =
    let a = 0xC0 + c / 64 in
    let b = 0x80 + c % 64 in
    rw (encode_2 c p q, lt-leb a 0x7F (omega arith), is_2 a b (omega arith), number_2 c q)

begins_3 : (c : ℕ) (s : List ℕ) → 0x7FF < c → c ≤ 0xFFFF → scalar c ≡ true → Begins c s
unfolding Begins first_char first2 first3
begins_3 c s p q is =
    let a = 0xE0 + c / 4096 in
    let b = 0x80 + c / 64 % 64 in
    let d = 0x80 + c % 64 in
    rw (
      encode_3 c p q,
      lt-leb a 0x7F (omega arith),
      not_2 a b (omega arith),
      is_3 a b d (begins3_of c p q (scalar_true c is)) (omega arith),
      number_3 c q,
    )

begins_4 : (c : ℕ) (s : List ℕ) → 0xFFFF < c → c ≤ 0x10FFFF → Begins c s
unfolding Begins first_char first2 first3 first4
begins_4 c s p q =
    let a = 0xF0 + c / 262144 in
    let b = 0x80 + c / 4096 % 64 in
    let d = 0x80 + c / 64 % 64 in
    let e = 0x80 + c % 64 in
    rw (
      encode_4 c p,
      lt-leb a 0x7F (omega arith),
      not_2 a b (omega arith),
      not_3 a b d (omega arith),
      is_4 a b d e (begins4_of c p q) (omega arith) (omega arith),
      number_4 c (omega arith),
    )

pub first_of : (c : ℕ) (s : List ℕ) → scalar c ≡ true → first_char (encode c ++ s) ≡ char_of c (length (encode c))
unfolding Scalar Begins first_char
first_of c s is = go (leb c 0x7F) (leb c 0x7FF) (leb c 0xFFFF) refl refl refl
  where
    most : Scalar c → c ≤ 0x10FFFF
    most (inl h) = omega arith
    most (inr h) = h.1

    go : (x y z : Bool) → leb c 0x7F ≡ x → leb c 0x7FF ≡ y → leb c 0xFFFF ≡ z → Begins c s
    go true y z e f g = rw (encode_1 c (leb-true c 0x7F e), e)
    go false true z e f g = begins_2 c s (leb-false c 0x7F e) (leb-true c 0x7FF f)
    go false false true e f g = begins_3 c s (leb-false c 0x7FF f) (leb-true c 0xFFFF g) is
    go false false false e f g = begins_4 c s (leb-false c 0xFFFF g) (most (scalar_true c is))
