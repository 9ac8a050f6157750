-- A line of a script: words with single spaces between them. The first is the call's name, the others are its items,
-- each a key, `=` and a value.
use Rattle.std.specs.Prelude.{cond, List, [], ◌∷◌, ℕ, ◌-◌, eqb, take, drop}
use Rattle.word_table.specs.Words.{onto}

-- the bytes from place a to before place e
abbrev pub part : ℕ → ℕ → List ℕ → List ℕ
part a e s = take (e - a) (drop a s)

-- the words between the bytes b
unfoldable pub split : ℕ → List ℕ → List (List ℕ)
split b [] = [] ∷ []
split b (x ∷ xs) = cond (eqb x b) ([] ∷ split b xs) (onto x (split b xs))

abbrev pub after_first : List (List ℕ) → List (List ℕ)
after_first [] = []
after_first (w ∷ ws) = ws

-- the words behind the first space
unfoldable pub items_of : List ℕ → List (List ℕ)
items_of line = after_first (split 32 line)
