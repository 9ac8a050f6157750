-- The lines of a text, and the place of a word in a list of words.
use Rattle.std.specs.Prelude.{cond, List, [], ◌∷◌, ℕ, suc, ◌+◌, eqb, take, drop}
use Rattle.arrays.specs.Arrays.{same_bytes}

-- how many bytes stand before the first b
unfoldable pub before : ℕ → List ℕ → ℕ
before b [] = 0
before b (x ∷ xs) = cond (eqb x b) 0 (suc (before b xs))

-- x at the front of the first line
abbrev pub onto : ℕ → List (List ℕ) → List (List ℕ)
onto x [] = (x ∷ []) ∷ []
onto x (w ∷ ws) = (x ∷ w) ∷ ws

-- the pieces, each of which ends with byte b or with the text: lines for b = 10, words for b = 32
unfoldable pub lines_of : ℕ → List ℕ → List (List ℕ)
lines_of b [] = []
lines_of b (x ∷ xs) = cond (eqb x b) ([] ∷ lines_of b xs) (onto x (lines_of b xs))

-- a row's first word, and the words behind it
unfoldable pub name_of : List ℕ → List ℕ
name_of row = take (before 32 row) row

unfoldable pub rest_of : List ℕ → List ℕ
rest_of row = drop (before 32 row + 1) row

-- the place of the first row of this name, or the number of rows
unfoldable pub place_in : List (List ℕ) → List ℕ → ℕ
place_in [] w = 0
place_in (x ∷ xs) w = cond (same_bytes w (name_of x)) 0 (suc (place_in xs w))
