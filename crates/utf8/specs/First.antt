-- What `first_char` answers, on the way to what Utf8 says.
use Rattle.std.specs.Prelude.{cond, List, [], ◌∷◌, ℕ, Option, Some, None}
use Rattle.utf8.specs.Utf8.{utf8_1, utf8_2, utf8_3, utf8_4, point2, point3, point4}
use Rattle.utf8.specs.declared.Char.{Char}

-- the character number c, of k octets
abbrev pub char_of : ℕ → ℕ → Option Char
char_of c k = Some (record { point = c; size = k })

-- the character that a string begins with, and its number of octets
unfoldable pub first4 : ℕ → ℕ → ℕ → List ℕ → Option Char
first4 a b c [] = None
first4 a b c (d ∷ s) = cond (utf8_4 a b c d) (char_of (point4 a b c d) 4) None

unfoldable pub first3 : ℕ → ℕ → List ℕ → Option Char
first3 a b [] = None
first3 a b (c ∷ s) = cond (utf8_3 a b c) (char_of (point3 a b c) 3) (first4 a b c s)

unfoldable pub first2 : ℕ → List ℕ → Option Char
first2 a [] = None
first2 a (b ∷ s) = cond (utf8_2 a b) (char_of (point2 a b) 2) (first3 a b s)

unfoldable pub first_char : List ℕ → Option Char
first_char [] = None
first_char (a ∷ s) = cond (utf8_1 a) (char_of a 1) (first2 a s)
