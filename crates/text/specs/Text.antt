-- The typed code: is it text, White_Space trimmed, separators between digits dropped, is it right (document 01, "Submit a code" and
-- "Sessions and codes"; document 02, W-202).
use Rattle.std.specs.Prelude.{Bool, false, cond, ◌&&◌, ◌||◌, List, [], ◌∷◌, reverse, ℕ, eqb, take, Option, Some, None, is_some}
use Rattle.arrays.specs.Arrays.{same_bytes}
use Rattle.utf8.specs.Utf8.{within, decode, encode_all}

-- White_Space: the 25 code points
unfoldable pub white : ℕ → Bool
white c =
    within 9 13 c
    || eqb c 32
    || eqb c 133
    || eqb c 160
    || eqb c 5760
    || within 8192 8202 c
    || within 8232 8233 c
    || eqb c 8239
    || eqb c 8287
    || eqb c 12288

-- what is left from the first code point on that is not white
unfoldable pub trim_front : List ℕ → List ℕ
trim_front [] = []
trim_front (c ∷ cs) = cond (white c) (trim_front cs) (c ∷ cs)

-- the same at both ends
unfoldable pub trim : List ℕ → List ℕ
trim cs = reverse (trim_front (reverse (trim_front cs)))

abbrev pub trimmed_of : Option (List ℕ) → List ℕ
trimmed_of None = []
trimmed_of (Some cs) = encode_all (trim cs)

-- UTF-8 or not
unfoldable pub is_text : List ℕ → Bool
is_text s = is_some (decode s)

-- the bytes that are left of a text; none of what is no text
unfoldable pub trimmed : List ℕ → List ℕ
trimmed s = trimmed_of (decode s)

-- a digit, as a draw gives it
unfoldable pub is_digit : ℕ → Bool
is_digit b = within 48 57 b

-- a space or a hyphen
unfoldable pub is_separator : ℕ → Bool
is_separator b = eqb b 32 || eqb b 45

unfoldable pub begins_digit : List ℕ → Bool
begins_digit [] = false
begins_digit (b ∷ s) = is_digit b

-- the byte b is dropped: one separator standing between two digits; `behind`: the byte before it is a digit; s: the bytes after it
unfoldable pub is_dropped : Bool → ℕ → List ℕ → Bool
is_dropped behind b s = behind && is_separator b && begins_digit s

-- every neighbour is looked at where it was typed, dropped or not
unfoldable pub ungrouped_from : Bool → List ℕ → List ℕ
ungrouped_from behind [] = []
ungrouped_from behind (b ∷ s) = cond (is_dropped behind b s) (ungrouped_from (is_digit b) s) (b ∷ ungrouped_from (is_digit b) s)

-- what is left once separators are dropped; before the first byte there is none, and so no digit
unfoldable pub ungrouped : List ℕ → List ℕ
ungrouped s = ungrouped_from false s

-- typed is right for the first n bytes of code: text, trimmed, then ungrouped, that is these
unfoldable pub right : List ℕ → ℕ → List ℕ → Bool
right code n typed = is_text typed && same_bytes (ungrouped (trimmed typed)) (take n code)
