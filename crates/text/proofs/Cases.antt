-- Worked examples: P5, separators, and strings at the edges of the grammar and of White_Space.
use Rattle.std.proofs.Common.{◌≡◌, ℕ, true, false, List, [], ◌∷◌, map, refl}
use Rattle.arrays.specs.Arrays.{same_bytes}
use Rattle.utf8.specs.Utf8.{within, encode, encode_all, decode, utf8_2, utf8_3, utf8_4, begins3, begins4}
use Rattle.text.specs.Text.{white, trim_front, trim, is_text, trimmed, is_digit, is_separator, begins_digit, is_dropped, ungrouped_from, ungrouped, right}

-- the code 1234
code : List ℕ
code = 49 ∷ 50 ∷ 51 ∷ 52 ∷ 0 ∷ 0 ∷ 0 ∷ 0 ∷ 0 ∷ []

unfoldable open_all : Unit {0}
unfolding code right is_text trimmed trim trim_front white same_bytes decode encode_all encode within utf8_2 utf8_3 utf8_4 begins3 begins4 is_digit is_separator begins_digit is_dropped ungrouped_from ungrouped
open_all = tt

-- a blank before it, C2 A0 before it, a blank inside
p5 :
    map (right code 4)
    ((32 ∷ 49 ∷ 50 ∷ 51 ∷ 52 ∷ []) ∷ (0xC2 ∷ 0xA0 ∷ 49 ∷ 50 ∷ 51 ∷ 52 ∷ []) ∷ (49 ∷ 50 ∷ 32 ∷ 51 ∷ 52 ∷ []) ∷ [])
    ≡ true ∷ true ∷ true ∷ []
unfolding open_all
p5 = refl

-- 12-34; 1 2-3 4; blanks inside and at both ends
groups :
    map (right code 4)
    ((49 ∷ 50 ∷ 45 ∷ 51 ∷ 52 ∷ []) ∷ (49 ∷ 32 ∷ 50 ∷ 45 ∷ 51 ∷ 32 ∷ 52 ∷ []) ∷ (32 ∷ 49 ∷ 50 ∷ 32 ∷ 51 ∷ 52 ∷ 32 ∷ []) ∷ [])
    ≡ true ∷ true ∷ true ∷ []
unfolding open_all
groups = refl

-- two in a row; a hyphen before and behind; a tab and C2 A0 inside
no_groups :
    map (right code 4)
    ((49 ∷ 50 ∷ 32 ∷ 32 ∷ 51 ∷ 52 ∷ []) ∷ (45 ∷ 49 ∷ 50 ∷ 51 ∷ 52 ∷ []) ∷ (49 ∷ 50 ∷ 51 ∷ 52 ∷ 45 ∷ [])
    ∷ (49 ∷ 50 ∷ 9 ∷ 51 ∷ 52 ∷ []) ∷ (49 ∷ 50 ∷ 0xC2 ∷ 0xA0 ∷ 51 ∷ 52 ∷ []) ∷ [])
    ≡ false ∷ false ∷ false ∷ false ∷ false ∷ []
unfolding open_all
no_groups = refl

-- an ideographic space behind it, and a zero width space, which is no White_Space
behind :
    map (right code 4)
    ((49 ∷ 50 ∷ 51 ∷ 52 ∷ 0xE3 ∷ 0x80 ∷ 0x80 ∷ []) ∷ (49 ∷ 50 ∷ 51 ∷ 52 ∷ 0xE2 ∷ 0x80 ∷ 0x8B ∷ []) ∷ [])
    ≡ true ∷ false ∷ []
unfolding open_all
behind = refl

-- octets of more than the shortest form, a surrogate, a number above 10FFFF; then the strings next to them
edges :
    map is_text
    ((0xC1 ∷ 0xBF ∷ []) ∷ (0xED ∷ 0xA0 ∷ 0x80 ∷ []) ∷ (0xF4 ∷ 0x90 ∷ 0x80 ∷ 0x80 ∷ [])
    ∷ (0xC2 ∷ 0x80 ∷ []) ∷ (0xED ∷ 0x9F ∷ 0xBF ∷ []) ∷ (0xF4 ∷ 0x8F ∷ 0xBF ∷ 0xBF ∷ []) ∷ [])
    ≡ false ∷ false ∷ false ∷ true ∷ true ∷ true ∷ []
unfolding is_text decode within utf8_2 utf8_3 utf8_4 begins3 begins4
edges = refl
