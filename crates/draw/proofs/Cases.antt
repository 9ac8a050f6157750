-- P1 to P4 of document 01: draws of four digits.
use Rattle.std.proofs.Common.{◌≡◌, refl, Option, Some, None, List, [], ◌∷◌, ℕ}
use Rattle.arrays.specs.Arrays.{padded}
use Rattle.draw.specs.Draw.{group, first_below, digits, draw_limit, drawn}

-- the digits w x y z in ASCII, and zeros past them
abbrev four : ℕ → ℕ → ℕ → ℕ → Option (List ℕ)
four w x y z = Some (w ∷ x ∷ y ∷ z ∷ 0 ∷ 0 ∷ 0 ∷ 0 ∷ 0 ∷ [])

-- 1234
pub p1 : drawn (0xD2 ∷ 0x04 ∷ 0x00 ∷ 0x00 ∷ []) 4 ≡ four 49 50 51 52
unfolding drawn first_below draw_limit group digits padded
p1 = refl

-- the first group is above the limit; 0007
pub p2 : drawn (0xFF ∷ 0xFF ∷ 0xFF ∷ 0xFF ∷ 0x07 ∷ 0x00 ∷ 0x00 ∷ 0x00 ∷ []) 4 ≡ four 48 48 48 55
unfolding drawn first_below draw_limit group digits padded
p2 = refl

-- the last group below the limit; 9999
pub p3 : drawn (0x7F ∷ 0xE3 ∷ 0xFF ∷ 0xFF ∷ []) 4 ≡ four 57 57 57 57
unfolding drawn first_below draw_limit group digits padded
p3 = refl

-- the limit itself gives no code
pub p4 : drawn (0x80 ∷ 0xE3 ∷ 0xFF ∷ 0xFF ∷ []) 4 ≡ None
unfolding drawn first_below draw_limit group digits padded
p4 = refl
