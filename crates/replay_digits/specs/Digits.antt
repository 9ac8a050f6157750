-- What digits and text say: numbers and bytes.
use Rattle.std.specs.Prelude.{Bool, true, false, cond, List, [], ◌∷◌, ℕ, ◌+◌, ◌*◌, ◌%◌, eqb, ltb, leb, length, drop, Option, Some, None, unwrap_or}
use Rattle.arrays.specs.Arrays.{put}
use Rattle.hexadecimal.specs.Hex.{value_of}
use Rattle.replay_digits.specs.declared.Written.{Written}
use Rattle.replay_digits.specs.declared.Written.TheVariants.{Hex, HexOrText}

-- ---- numbers

-- a digit's value; 16 stands for no digit
unfoldable pub digit_of : ℕ → ℕ
digit_of b = unwrap_or (value_of b) 16

-- digits of a base, which is at most 16, behind the number v
unfoldable pub number_from : ℕ → ℕ → ℕ → List ℕ → Option ℕ
number_from base most v [] = Some v
number_from base most v (b ∷ bs) = cond (leb base (digit_of b)) None (cond (ltb most (v * base + digit_of b)) None (number_from base most (v * base + digit_of b) bs))

-- one digit of the base or more, and nothing else; the number is at most `most`
unfoldable pub number_in : ℕ → ℕ → List ℕ → Option ℕ
number_in base most [] = None
number_in base most (b ∷ bs) = number_from base most 0 (b ∷ bs)

-- ---- bytes

unfoldable pub all_digits : List ℕ → Bool
all_digits [] = true
all_digits (b ∷ bs) = cond (ltb 15 (digit_of b)) false (all_digits bs)

-- hexadecimal digits in pairs
unfoldable pub is_hex : List ℕ → Bool
is_hex s = cond (eqb (length s % 2) 1) false (all_digits s)

-- the bytes that the pairs make
unfoldable pub pairs_of : List ℕ → List ℕ
pairs_of [] = []
pairs_of (a ∷ []) = []
pairs_of (a ∷ b ∷ s) = (digit_of a * 16 + digit_of b) ∷ pairs_of s

-- where a text may stand: an apostrophe (39), and then the bytes as they are
abbrev pub is_text : Written → List ℕ → Bool
is_text Hex s = false
is_text HexOrText [] = false
is_text HexOrText (b ∷ bs) = eqb b 39

-- such a text, or hexadecimal digits in pairs
unfoldable pub is_bytes : Written → List ℕ → Bool
is_bytes form s = cond (is_text form s) true (is_hex s)

-- the bytes that they are
unfoldable pub as_bytes : Written → List ℕ → List ℕ
as_bytes form s = cond (is_text form s) (drop 1 s) (pairs_of s)

-- whether s is bytes that fit from `at` on into memory of this length
unfoldable pub fits_in : Written → List ℕ → ℕ → ℕ → Bool
fits_in form s at room = cond (is_bytes form s) (cond (ltb room (at + length (as_bytes form s))) false true) false

-- the place after the bytes
unfoldable pub laid_to : Written → List ℕ → ℕ → ℕ → Option ℕ
laid_to form s at room = cond (fits_in form s at room) (Some (at + length (as_bytes form s))) None

-- the memory with the bytes laid down in it
unfoldable pub lay_bytes : Written → List ℕ → ℕ → List ℕ → List ℕ
lay_bytes form s at out = cond (fits_in form s at (length out)) (put out at (as_bytes form s)) out
