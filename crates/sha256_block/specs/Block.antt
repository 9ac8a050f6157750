-- One block of SHA-256, as FIPS 180-4 defines it, with the paper's section numbers; what stands around it is sha256/specs/Sha256.antt.
-- A word is a number below 2 ^ 32 and a byte one below 2 ^ 8. A list is in the order of its indices, from 0.
use Rattle.std.specs.Prelude.{ℕ, zero, suc, ◌+◌, ◌-◌, ◌*◌, ◌/◌, ◌%◌, ◌^◌, cond, List, [], ◌∷◌, ◌++◌, bit_and, bit_or, bit_xor, nat_lt, slice_index, slice_index_or}

infixl 60 ◌⊞◌
infixl 62 ◌⊕◌
infixl 64 ◌&◌
-- ---- 2.2.2 and 3.2: operations on words of w = 32 bits

-- x + y: addition modulo 2 ^ 32
abbrev pub ◌⊞◌ : ℕ → ℕ → ℕ
x ⊞ y = (x + y) % 2 ^ 32

-- x ∧ y, x ⊕ y and ¬ x, bit by bit
abbrev pub ◌&◌ : ℕ → ℕ → ℕ
x & y = bit_and x y

abbrev pub ◌⊕◌ : ℕ → ℕ → ℕ
x ⊕ y = bit_xor x y

abbrev pub complement : ℕ → ℕ
complement x = 2 ^ 32 - 1 - x

-- x >> n and x << n; the bits that x << n moves past the word's end are lost
abbrev pub SHR : ℕ → ℕ → ℕ
SHR n x = x / 2 ^ n

abbrev pub SHL : ℕ → ℕ → ℕ
SHL n x = x * 2 ^ n % 2 ^ 32

-- (x >> n) ∨ (x << w - n)
abbrev pub ROTR : ℕ → ℕ → ℕ
ROTR n x = bit_or (SHR n x) (SHL (32 - n) x)

-- ---- 4.1.2: functions

abbrev pub Ch : ℕ → ℕ → ℕ → ℕ
Ch x y z = (x & y) ⊕ (complement x & z)

abbrev pub Maj : ℕ → ℕ → ℕ → ℕ
Maj x y z = (x & y) ⊕ (x & z) ⊕ (y & z)

abbrev pub Σ₀ : ℕ → ℕ
Σ₀ x = ROTR 2 x ⊕ ROTR 13 x ⊕ ROTR 22 x

abbrev pub Σ₁ : ℕ → ℕ
Σ₁ x = ROTR 6 x ⊕ ROTR 11 x ⊕ ROTR 25 x

abbrev pub σ₀ : ℕ → ℕ
σ₀ x = ROTR 7 x ⊕ ROTR 18 x ⊕ SHR 3 x

abbrev pub σ₁ : ℕ → ℕ
σ₁ x = ROTR 17 x ⊕ ROTR 19 x ⊕ SHR 10 x

-- ---- 4.2.2: constants

unfoldable pub K : List ℕ
K =
    0x428a_2f98 ∷ 0x7137_4491 ∷ 0xb5c0_fbcf ∷ 0xe9b5_dba5 ∷ 0x3956_c25b ∷ 0x59f1_11f1 ∷ 0x923f_82a4 ∷ 0xab1c_5ed5 ∷
    0xd807_aa98 ∷ 0x1283_5b01 ∷ 0x2431_85be ∷ 0x550c_7dc3 ∷ 0x72be_5d74 ∷ 0x80de_b1fe ∷ 0x9bdc_06a7 ∷ 0xc19b_f174 ∷
    0xe49b_69c1 ∷ 0xefbe_4786 ∷ 0x0fc1_9dc6 ∷ 0x240c_a1cc ∷ 0x2de9_2c6f ∷ 0x4a74_84aa ∷ 0x5cb0_a9dc ∷ 0x76f9_88da ∷
    0x983e_5152 ∷ 0xa831_c66d ∷ 0xb003_27c8 ∷ 0xbf59_7fc7 ∷ 0xc6e0_0bf3 ∷ 0xd5a7_9147 ∷ 0x06ca_6351 ∷ 0x1429_2967 ∷
    0x27b7_0a85 ∷ 0x2e1b_2138 ∷ 0x4d2c_6dfc ∷ 0x5338_0d13 ∷ 0x650a_7354 ∷ 0x766a_0abb ∷ 0x81c2_c92e ∷ 0x9272_2c85 ∷
    0xa2bf_e8a1 ∷ 0xa81a_664b ∷ 0xc24b_8b70 ∷ 0xc76c_51a3 ∷ 0xd192_e819 ∷ 0xd699_0624 ∷ 0xf40e_3585 ∷ 0x106a_a070 ∷
    0x19a4_c116 ∷ 0x1e37_6c08 ∷ 0x2748_774c ∷ 0x34b0_bcb5 ∷ 0x391c_0cb3 ∷ 0x4ed8_aa4a ∷ 0x5b9c_ca4f ∷ 0x682e_6ff3 ∷
    0x748f_82ee ∷ 0x78a5_636f ∷ 0x84c8_7814 ∷ 0x8cc7_0208 ∷ 0x90be_fffa ∷ 0xa450_6ceb ∷ 0xbef9_a3f7 ∷ 0xc671_78f2 ∷ []

-- ---- 5.2.1: parsing. A block is 64 bytes, and a word 4, the most significant first

abbrev pub word : List ℕ → ℕ → ℕ
word p at = slice_index p at * 2 ^ 24 + slice_index p (at + 1) * 2 ^ 16 + slice_index p (at + 2) * 2 ^ 8 + slice_index p (at + 3)

-- word t of block i of p, both counted from 0
abbrev pub M : List ℕ → ℕ → ℕ → ℕ
M p i t = word p (64 * i + 4 * t)

-- ---- 6.2.2: computation

-- step 1: word t of the schedule, from those before it, w, and from the block's words, m
abbrev pub next : (ℕ → ℕ) → List ℕ → ℕ → ℕ
next m w t = cond (nat_lt t 16) (m t) (σ₁ (slice_index w (t - 2)) ⊞ slice_index_or w (t - 7) 0 ⊞ σ₀ (slice_index w (t - 15)) ⊞ slice_index_or w (t - 16) 0)

-- the first t words of the schedule
unfoldable pub W : (ℕ → ℕ) → ℕ → List ℕ
W m zero = []
W m (suc t) = let w = W m t in w ++ next m w t ∷ []

-- steps 2 and 3: the working variables a to h are a list v of eight

abbrev pub T₁ : ℕ → ℕ → ℕ → ℕ → ℕ → ℕ → ℕ
T₁ e f g h k w = h ⊞ Σ₁ e ⊞ Ch e f g ⊞ k ⊞ w

abbrev pub T₂ : ℕ → ℕ → ℕ → ℕ
T₂ a b c = Σ₀ a ⊞ Maj a b c

-- one round, with the constant k and the word w of the schedule
abbrev pub round : ℕ → ℕ → List ℕ → List ℕ
round k w v =
    let a = slice_index_or v 0 0 in
    let b = slice_index_or v 1 0 in
    let c = slice_index_or v 2 0 in
    let d = slice_index_or v 3 0 in
    let e = slice_index_or v 4 0 in
    let f = slice_index_or v 5 0 in
    let g = slice_index_or v 6 0 in
    let h = slice_index_or v 7 0 in
    let t₁ = T₁ e f g h k w in
    let t₂ = T₂ a b c in
    (t₁ ⊞ t₂) ∷ a ∷ b ∷ c ∷ (d ⊞ t₁) ∷ e ∷ f ∷ g ∷ []

-- the working variables after t rounds over the schedule w, from v
unfoldable pub rounds : List ℕ → List ℕ → ℕ → List ℕ
rounds w v zero = v
rounds w v (suc t) = round (slice_index K t) (slice_index w t) (rounds w v t)

-- step 4
abbrev pub plus : List ℕ → List ℕ → List ℕ
plus [] h = []
plus (x ∷ v) [] = []
plus (x ∷ v) (y ∷ h) = (x ⊞ y) ∷ plus v h
