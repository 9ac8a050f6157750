-- 4.1.2: the functions on words with fewer operations.
use Rattle.std.proofs.Common.{◌≡◌, ℕ, zero, suc, ◌+◌, ◌-◌, ◌*◌, ◌/◌, ◌%◌, ◌^◌, ◌<◌, ◌≤◌, sym, refl, ap, ◌∙◌, subst, ap₂, lt_of_le_of_lt, add-zero, add_assoc, mod-lt, mul_assoc, add-mul, add_comm, pow-suc, arith, pow_pos, pow-add, shr-shr, shr_lt}
use Rattle.std.proofs.Math.Nat.{add-mul-div_right, mul-add-mod_self_right, mul-mod_left}
use Rattle.std.proofs.Math.Arith.{lt-one}
use Rattle.std.proofs.lemmas.Nat.{and_shr, xor_shr, and_mod, xor_mod, or_lt, xor_lt, xor_block, shl-shr, shr_le, mod-pow-add}
use Rattle.std.specs.Int.Bits.{bit_or, or_shifted_r}
use Rattle.sha256_block.specs.Block.{◌&◌, ◌⊕◌, SHR, ROTR, Ch, Maj, Σ₀, Σ₁, σ₀, σ₁}

-- ---- half of a number, and its last digit

and_half : (a b : ℕ) → (a & b) / 2 ≡ (a / 2) & (b / 2)
and_half a b = and_shr a b 1

xor_half : (a b : ℕ) → (a ⊕ b) / 2 ≡ (a / 2) ⊕ (b / 2)
xor_half a b = xor_shr a b 1

and_last : (a b : ℕ) → (a & b) % 2 ≡ (a % 2) & (b % 2)
and_last a b = and_mod a b 1

xor_last : (a b : ℕ) → (a ⊕ b) % 2 ≡ (a % 2) ⊕ (b % 2)
xor_last a b = xor_mod a b 1

half_lt : (x k : ℕ) → x < 2 ^ suc k → x / 2 < 2 ^ k
half_lt x k h = omega (arith, h, pow-suc 2 k)

by_digits : (a b : ℕ) → a / 2 ≡ b / 2 → a % 2 ≡ b % 2 → a ≡ b
by_digits a b h l = omega arith

digit : (P : ℕ → Type 0) → P 0 → P 1 → (n : ℕ) → n < 2 → P n
digit P p q zero h = p
digit P p q (suc zero) h = q
digit P p q (suc (suc n)) h = absurd (omega (arith, h))

last_digit : (P : ℕ → Type 0) → P 0 → P 1 → (n : ℕ) → P (n % 2)
last_digit P p q n = digit P p q (n % 2) (omega arith)

-- what holds of the eight triples of digits holds of the last digits of three numbers
last_digits : (P : ℕ → ℕ → ℕ → Type 0) → P 0 0 0 → P 0 0 1 → P 0 1 0 → P 0 1 1 → P 1 0 0 → P 1 0 1 → P 1 1 0 → P 1 1 1
    → (x y z : ℕ) → P (x % 2) (y % 2) (z % 2)
last_digits P a b c d e f g h x y z =
    last_digit (λ (u : ℕ). P u (y % 2) (z % 2))
    (last_digit (λ (v : ℕ). P 0 v (z % 2)) (last_digit (P 0 0) a b z) (last_digit (P 0 1) c d z) y)
    (last_digit (λ (v : ℕ). P 1 v (z % 2)) (last_digit (P 1 0) e f z) (last_digit (P 1 1) g h z) y)
    x

-- two forms over three numbers of k digits are the same if they are so of the halves and of the last digits
module _ (F G : ℕ → ℕ → ℕ → ℕ → ℕ) (none : F 0 0 0 0 ≡ G 0 0 0 0)
    (half : (k x y z : ℕ) → x < 2 ^ suc k → F k (x / 2) (y / 2) (z / 2) ≡ G k (x / 2) (y / 2) (z / 2) → F (suc k) x y z / 2 ≡ G (suc k) x y z / 2)
    (last : (k x y z : ℕ) → x < 2 ^ suc k → F (suc k) x y z % 2 ≡ G (suc k) x y z % 2) where
  same : (k x y z : ℕ) → x < 2 ^ k → y < 2 ^ k → z < 2 ^ k → F k x y z ≡ G k x y z
  same zero x y z hx hy hz =
      let p = lt-one hx in
      let q = lt-one hy in
      let r = lt-one hz in
      (λ i. F 0 (p i) (q i) (r i)) ∙ none ∙ sym (λ i. G 0 (p i) (q i) (r i))
  same (suc k) x y z hx hy hz =
      by_digits (F (suc k) x y z) (G (suc k) x y z)
      (half k x y z hx (same k (x / 2) (y / 2) (z / 2) (half_lt x k hx) (half_lt y k hy) (half_lt z k hz)))
      (last k x y z hx)

-- ---- Ch

abbrev ch : ℕ → ℕ → ℕ → ℕ
ch x y z = (x & (y ⊕ z)) ⊕ z

-- n has every digit that x has
abbrev ch_paper : ℕ → ℕ → ℕ → ℕ → ℕ
ch_paper n x y z = (x & y) ⊕ ((n - x) & z)

not_half : (k x : ℕ) → x < 2 ^ suc k → (2 ^ suc k - 1 - x) / 2 ≡ 2 ^ k - 1 - x / 2
not_half k x h = omega (arith, h, pow-suc 2 k)

not_last : (k x : ℕ) → x < 2 ^ suc k → (2 ^ suc k - 1 - x) % 2 ≡ 1 - x % 2
not_last k x h = omega (arith, h, pow-suc 2 k)

ch_half : (k x y z : ℕ) → x < 2 ^ suc k → ch (x / 2) (y / 2) (z / 2) ≡ ch_paper (2 ^ k - 1) (x / 2) (y / 2) (z / 2)
    → ch x y z / 2 ≡ ch_paper (2 ^ suc k - 1) x y z / 2
ch_half k x y z h e =
    let c = 2 ^ suc k - 1 - x in
    xor_half (x & (y ⊕ z)) z
    ∙ ap (λ (n : ℕ). n ⊕ (z / 2)) (and_half x (y ⊕ z) ∙ ap (λ (n : ℕ). (x / 2) & n) (xor_half y z))
    ∙ e
    ∙ sym (xor_half (x & y) (c & z) ∙ ap₂ (λ (n m : ℕ). n ⊕ m) (and_half x y) (and_half c z ∙ ap (λ (n : ℕ). n & (z / 2)) (not_half k x h)))

ch_last : (k x y z : ℕ) → x < 2 ^ suc k → ch x y z % 2 ≡ ch_paper (2 ^ suc k - 1) x y z % 2
ch_last k x y z h =
    let c = 2 ^ suc k - 1 - x in
    xor_last (x & (y ⊕ z)) z
    ∙ ap (λ (n : ℕ). n ⊕ (z % 2)) (and_last x (y ⊕ z) ∙ ap (λ (n : ℕ). (x % 2) & n) (xor_last y z))
    ∙ last_digits (λ (u v w : ℕ). ch u v w ≡ ch_paper 1 u v w) refl refl refl refl refl refl refl refl x y z
    ∙ sym (xor_last (x & y) (c & z) ∙ ap₂ (λ (n m : ℕ). n ⊕ m) (and_last x y) (and_last c z ∙ ap (λ (n : ℕ). n & (z % 2)) (not_last k x h)))

pub ch_is : (x y z : ℕ) → x < 2 ^ 32 → y < 2 ^ 32 → z < 2 ^ 32 → (x & (y ⊕ z)) ⊕ z ≡ Ch x y z
ch_is = same (λ k. ch) (λ k. ch_paper (2 ^ k - 1)) refl ch_half ch_last 32

-- ---- Maj

abbrev maj : ℕ → ℕ → ℕ → ℕ
maj x y z = ((x ⊕ y) & (y ⊕ z)) ⊕ y

maj_half : (k x y z : ℕ) → x < 2 ^ suc k → maj (x / 2) (y / 2) (z / 2) ≡ Maj (x / 2) (y / 2) (z / 2) → maj x y z / 2 ≡ Maj x y z / 2
maj_half k x y z h e =
    xor_half ((x ⊕ y) & (y ⊕ z)) y
    ∙ ap (λ (n : ℕ). n ⊕ (y / 2)) (and_half (x ⊕ y) (y ⊕ z) ∙ ap₂ (λ (n m : ℕ). n & m) (xor_half x y) (xor_half y z))
    ∙ e
    ∙ sym
    (xor_half ((x & y) ⊕ (x & z)) (y & z)
    ∙ ap₂ (λ (n m : ℕ). n ⊕ m) (xor_half (x & y) (x & z) ∙ ap₂ (λ (n m : ℕ). n ⊕ m) (and_half x y) (and_half x z)) (and_half y z))

maj_last : (k x y z : ℕ) → x < 2 ^ suc k → maj x y z % 2 ≡ Maj x y z % 2
maj_last k x y z h =
    xor_last ((x ⊕ y) & (y ⊕ z)) y
    ∙ ap (λ (n : ℕ). n ⊕ (y % 2)) (and_last (x ⊕ y) (y ⊕ z) ∙ ap₂ (λ (n m : ℕ). n & m) (xor_last x y) (xor_last y z))
    ∙ last_digits (λ (u v w : ℕ). maj u v w ≡ Maj u v w) refl refl refl refl refl refl refl refl x y z
    ∙ sym
    (xor_last ((x & y) ⊕ (x & z)) (y & z)
    ∙ ap₂ (λ (n m : ℕ). n ⊕ m) (xor_last (x & y) (x & z) ∙ ap₂ (λ (n m : ℕ). n ⊕ m) (and_last x y) (and_last x z)) (and_last y z))

pub maj_is : (x y z : ℕ) → x < 2 ^ 32 → y < 2 ^ 32 → z < 2 ^ 32 → ((x ⊕ y) & (y ⊕ z)) ⊕ y ≡ Maj x y z
maj_is = same (λ k. maj) (λ k. Maj) refl maj_half maj_last 32

-- ---- rotations: a sum of rotations of x, made from one to the next

xor_assoc : (x y z : ℕ) → x < 2 ^ 32 → y < 2 ^ 32 → z < 2 ^ 32 → x ⊕ (y ⊕ z) ≡ x ⊕ y ⊕ z
xor_assoc =
    same (λ (k x y z : ℕ). x ⊕ (y ⊕ z)) (λ (k x y z : ℕ). x ⊕ y ⊕ z) refl
    (λ k x y z h e. xor_half x (y ⊕ z) ∙ ap (λ (n : ℕ). (x / 2) ⊕ n) (xor_half y z) ∙ e ∙ sym (xor_half (x ⊕ y) z ∙ ap (λ (n : ℕ). n ⊕ (z / 2)) (xor_half x y)))
    (λ k x y z h. xor_last x (y ⊕ z)
    ∙ ap (λ (n : ℕ). (x % 2) ⊕ n) (xor_last y z)
    ∙ last_digits (λ (u v w : ℕ). u ⊕ (v ⊕ w) ≡ u ⊕ v ⊕ w) refl refl refl refl refl refl refl refl x y z
    ∙ sym (xor_last (x ⊕ y) z ∙ ap (λ (n : ℕ). n ⊕ (z % 2)) (xor_last x y)))
    32

-- the n last digits in front of j others
abbrev before : ℕ → ℕ → ℕ → ℕ
before n j x = x % 2 ^ n * 2 ^ j + x / 2 ^ n

abbrev turned : ℕ → ℕ → ℕ
turned n x = before n (32 - n) x

others_lt : (n x : ℕ) → n ≤ 32 → x < 2 ^ 32 → x / 2 ^ n < 2 ^ (32 - n)
others_lt n x l h =
    let f : 32 ≡ 32 - n + n = omega arith in
    shr_lt (32 - n) n (subst (λ (w : ℕ). x < 2 ^ w) f h)

rotr_turned : (n x : ℕ) → n ≤ 32 → x < 2 ^ 32 → ROTR n x ≡ turned n x
rotr_turned n x l h =
    let k = 32 - n in
    let e : n + k ≡ 32 = omega arith in
    let moved : x * 2 ^ k % 2 ^ 32 ≡ x % 2 ^ n * 2 ^ k =
    ap (λ (w : ℕ). x * 2 ^ k % 2 ^ w) (sym e)
    ∙ mod-pow-add (x * 2 ^ k) n k
    ∙ ap₂ (λ (p q : ℕ). p % 2 ^ n * 2 ^ k + q) (shl-shr x k) (mul-mod_left x (2 ^ k))
    ∙ add-zero (x % 2 ^ n * 2 ^ k) in
    ap (λ (w : ℕ). bit_or (x / 2 ^ n) w) moved ∙ or_shifted_r (x % 2 ^ n) k (x / 2 ^ n) (others_lt n x l h)

rotr_lt : (n x : ℕ) → x < 2 ^ 32 → ROTR n x < 2 ^ 32
rotr_lt n x h = or_lt 32 (x / 2 ^ n) (x * 2 ^ (32 - n) % 2 ^ 32) (lt_of_le_of_lt (shr_le x n) h) (mod-lt (x * 2 ^ (32 - n)) (pow_pos 32))

rotr_xor : (n x y : ℕ) → n ≤ 32 → x < 2 ^ 32 → y < 2 ^ 32 → ROTR n (x ⊕ y) ≡ ROTR n x ⊕ ROTR n y
rotr_xor n x y l hx hy =
    let k = 32 - n in
    rotr_turned n (x ⊕ y) l (xor_lt 32 x y hx hy)
    ∙ ap₂ (λ (p q : ℕ). p * 2 ^ k + q) (xor_mod x y n) (xor_shr x y n)
    ∙ sym (xor_block k (x % 2 ^ n) (y % 2 ^ n) (x / 2 ^ n) (y / 2 ^ n) (others_lt n x l hx) (others_lt n y l hy))
    ∙ sym (ap₂ (λ (p q : ℕ). p ⊕ q) (rotr_turned n x l hx) (rotr_turned n y l hy))

-- m places, and then n, are n + m
before_twice : (n m k x : ℕ) → before n (m + k) (before m (k + n) x) ≡ before (n + m) k x
before_twice n m k x =
    let a = x % 2 ^ m in
    let b = x / 2 ^ m in
    let e : a * 2 ^ (k + n) + b ≡ a * 2 ^ k * 2 ^ n + b = ap (λ (w : ℕ). w + b) (ap (λ (w : ℕ). a * w) (pow-add 2 k n) ∙ sym (mul_assoc a (2 ^ k) (2 ^ n))) in
    let low : (a * 2 ^ (k + n) + b) % 2 ^ n ≡ b % 2 ^ n = ap (λ (w : ℕ). w % 2 ^ n) e ∙ mul-add-mod_self_right (a * 2 ^ k) (2 ^ n) b in
    let high : (a * 2 ^ (k + n) + b) / 2 ^ n ≡ a * 2 ^ k + b / 2 ^ n =
    ap (λ (w : ℕ). w / 2 ^ n) (e ∙ add_comm (a * 2 ^ k * 2 ^ n) b) ∙ add-mul-div_right b (a * 2 ^ k) (pow_pos n) ∙ add_comm (b / 2 ^ n) (a * 2 ^ k) in
    let whole : x % 2 ^ (n + m) ≡ b % 2 ^ n * 2 ^ m + a = mod-pow-add x n m in
    let rest : b / 2 ^ n ≡ x / 2 ^ (n + m) = shr-shr x m n ∙ ap (λ (w : ℕ). x / 2 ^ w) (add_comm m n) in
    ap₂ (λ (p q : ℕ). p * 2 ^ (m + k) + q) low high
    ∙ ap (λ (w : ℕ). w + (a * 2 ^ k + b / 2 ^ n)) (ap (λ (w : ℕ). b % 2 ^ n * w) (pow-add 2 m k) ∙ sym (mul_assoc (b % 2 ^ n) (2 ^ m) (2 ^ k)))
    ∙ sym (add_assoc (b % 2 ^ n * 2 ^ m * 2 ^ k) (a * 2 ^ k) (b / 2 ^ n))
    ∙ ap₂ (λ (p q : ℕ). p + q) (sym (add-mul (b % 2 ^ n * 2 ^ m) a (2 ^ k)) ∙ ap (λ (w : ℕ). w * 2 ^ k) (sym whole)) rest

rotr_twice : (n m x : ℕ) → n + m ≤ 32 → x < 2 ^ 32 → ROTR n (ROTR m x) ≡ ROTR (n + m) x
rotr_twice n m x l h =
    let k = 32 - (n + m) in
    let e : 32 - n ≡ m + k = omega arith in
    let f : 32 - m ≡ k + n = omega arith in
    rotr_turned n (ROTR m x) (omega arith) (rotr_lt m x h)
    ∙ ap (turned n) (rotr_turned m x (omega arith) h)
    ∙ (λ i. before n (e i) (before m (f i) x))
    ∙ before_twice n m k x
    ∙ sym (rotr_turned (n + m) x l h)

two_turns : (n m x : ℕ) → n + m ≤ 32 → x < 2 ^ 32 → ROTR n (x ⊕ ROTR m x) ≡ ROTR n x ⊕ ROTR (n + m) x
two_turns n m x l h =
    rotr_xor n x (ROTR m x) (omega arith) h (rotr_lt m x h) ∙ ap (λ (w : ℕ). ROTR n x ⊕ w) (rotr_twice n m x l h)

three_turns : (n m k x : ℕ) → n + m + k ≤ 32 → x < 2 ^ 32
    → ROTR n (x ⊕ ROTR m (x ⊕ ROTR k x)) ≡ ROTR n x ⊕ ROTR (n + m) x ⊕ ROTR (n + m + k) x
three_turns n m k x l h =
    let y = x ⊕ ROTR k x in
    let hy = xor_lt 32 x (ROTR k x) h (rotr_lt k x h) in
    rotr_xor n x (ROTR m y) (omega arith) h (rotr_lt m y hy)
    ∙ ap (λ (w : ℕ). ROTR n x ⊕ w) (rotr_twice n m y (omega arith) hy ∙ two_turns (n + m) k x l h)
    ∙ xor_assoc (ROTR n x) (ROTR (n + m) x) (ROTR (n + m + k) x) (rotr_lt n x h) (rotr_lt (n + m) x h) (rotr_lt (n + m + k) x h)

pub sum0_is : (x : ℕ) → x < 2 ^ 32 → ROTR 2 (x ⊕ ROTR 11 (x ⊕ ROTR 9 x)) ≡ Σ₀ x
sum0_is x h = three_turns 2 11 9 x (omega arith) h

pub sum1_is : (x : ℕ) → x < 2 ^ 32 → ROTR 6 (x ⊕ ROTR 5 (x ⊕ ROTR 14 x)) ≡ Σ₁ x
sum1_is x h = three_turns 6 5 14 x (omega arith) h

pub sig0_is : (x : ℕ) → x < 2 ^ 32 → ROTR 7 (x ⊕ ROTR 11 x) ⊕ SHR 3 x ≡ σ₀ x
sig0_is x h = ap (λ (w : ℕ). w ⊕ SHR 3 x) (two_turns 7 11 x (omega arith) h)

pub sig1_is : (x : ℕ) → x < 2 ^ 32 → ROTR 17 (x ⊕ ROTR 2 x) ⊕ SHR 10 x ≡ σ₁ x
sig1_is x h = ap (λ (w : ℕ). w ⊕ SHR 10 x) (two_turns 17 2 x (omega arith) h)
