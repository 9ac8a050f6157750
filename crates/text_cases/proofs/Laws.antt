-- Laws of the definitions of specs/.
use Rattle.std.proofs.Common.{◌≡◌, refl, ap, sym, ◌∙◌, List, ℕ, zero, suc, ◌+◌, ◌*◌, ◌≤◌, ◌<◌, add-one, arith, length, set, length-append}
use Rattle.std.proofs.lemmas.Bool.Decides.{nat_tests}
use Rattle.arrays.specs.Arrays.{padded}
use Rattle.arrays.proofs.Laws.{padded_push}
use Rattle.hexadecimal.specs.Hex.{value_of}
use Rattle.text_cases.specs.Cases.{nibble_of, byte_at, pairs_in, bytes_of}

-- ---- digits

pub nibble_small : (b : ℕ) → nibble_of b < 16
unfolding nibble_of value_of
nibble_small b = grind (arith, nat_tests)

-- ---- pairs

pub pairs_fit : (n : ℕ) → (pairs_in n ≤ 32) × (2 * pairs_in n ≤ n)
unfolding pairs_in
pairs_fit n = (grind (arith, nat_tests), grind (arith, nat_tests))

bytes_length : (line : List ℕ) (n : ℕ) → length (bytes_of line n) ≡ n
unfolding bytes_of
bytes_length line zero = refl
bytes_length line (suc n) = let h = bytes_length line n in rw length-append (omega arith)

-- one pair more
pub bytes_turn : (line : List ℕ) (i : ℕ) → i < 32 → set (padded 32 0 (bytes_of line i)) i (byte_at line i) ≡ padded 32 0 (bytes_of line (i + 1))
unfolding bytes_of
bytes_turn line i h =
    let n = bytes_length line i in
    let push = padded_push 32 0 (byte_at line i) (bytes_of line i) (omega arith) in
    rw add-one (ap (λ (k : ℕ). set (padded 32 0 (bytes_of line i)) k (byte_at line i)) (sym n) ∙ push)
