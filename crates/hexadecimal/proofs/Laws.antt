-- Laws of the definitions of specs/.
use Rattle.std.proofs.Common.{◌≡◌, refl, List, [], ◌∷◌, ℕ, zero, suc, ◌+◌, ◌*◌, ◌/◌, ◌%◌, ◌≤◌, ◌<◌, mod-eq_of_lt, arith, length, get_or, set, Some}
use Rattle.std.proofs.lemmas.Bool.Decides.{nat_tests}
use Rattle.std.proofs.Math.Seq.{paste, paste-suc}
use Rattle.hexadecimal.specs.Hex.{digit, hex_of, value_of}

pub hex_length : (s : List ℕ) → length (hex_of s) ≡ 2 * length s
unfolding hex_of
hex_length [] = refl
hex_length (b ∷ bs) = let h = hex_length bs in omega arith

two_more : (i : ℕ) → 2 * suc i ≡ suc (suc (2 * i))
two_more i = omega arith

-- the digits of byte i
pub hex_high : (s : List ℕ) (i : ℕ) → i < length s → get_or (hex_of s) (2 * i) 0 ≡ digit (get_or s i 0 / 16)
unfolding hex_of
hex_high [] i h = omega arith
hex_high (b ∷ bs) zero h = refl
hex_high (b ∷ bs) (suc i) h = rw (two_more i) (hex_high bs i (omega arith))

pub hex_low : (s : List ℕ) (i : ℕ) → i < length s → get_or (hex_of s) (suc (2 * i)) 0 ≡ digit (get_or s i 0 % 16)
unfolding hex_of
hex_low [] i h = omega arith
hex_low (b ∷ bs) zero h = refl
hex_low (b ∷ bs) (suc i) h = rw (two_more i) (hex_low bs i (omega arith))

-- the two stores of a turn take the digits of i bytes to those of i + 1
pub hex_turn : (d : List ℕ) (at : ℕ) (s : List ℕ) (i : ℕ) → at + 2 * length s ≤ length d → i < length s → get_or s i 0 < 256
    → set (set (paste d at (hex_of s) (2 * i)) (at + 2 * i) (digit (get_or s i 0 / 16 % 16))) (at + 2 * i + 1) (digit (get_or s i 0 % 16)) ≡ paste d at (hex_of s) (2 * (i + 1))
hex_turn d at s i fits h byte =
    let n = hex_length s in
    let e : at + 2 * i + 1 ≡ at + suc (2 * i) = omega arith in
    let f : 2 * (i + 1) ≡ suc (suc (2 * i)) = omega arith in
    let m : get_or s i 0 / 16 % 16 ≡ get_or s i 0 / 16 = mod-eq_of_lt (omega arith) in
    let one = paste-suc d at (hex_of s) (2 * i) 0 (omega arith) (omega arith) in
    let two = paste-suc d at (hex_of s) (suc (2 * i)) 0 (omega arith) (omega arith) in
    rw (m, e, f, ← hex_high s i h, ← hex_low s i h, one, two)

-- a digit that was written is read back
pub value_digit : (n : ℕ) → n < 16 → value_of (digit n) ≡ Some n
unfolding digit value_of
value_digit n h = grind (arith, nat_tests)
