-- The cases in the program's input: lines, the bytes that a line of digits says, and their verdict.
use Rattle.std.specs.Prelude.{cond, List, [], ◌∷◌, ◌++◌, ℕ, zero, suc, ◌+◌, ◌*◌, ◌/◌, ltb, get_or, unwrap_or}
use Rattle.ascii.specs.Ascii.{ascii}
use Rattle.hexadecimal.specs.Hex.{value_of}
use Rattle.text.specs.Text.{is_text, right}
use Rattle.text_cases.specs.declared.Verdict.{Verdict}
use Rattle.text_cases.specs.declared.Verdict.TheVariants.{NoText, Wrong, Right}

-- a digit's value; what is no digit counts as 0
unfoldable pub nibble_of : ℕ → ℕ
nibble_of b = unwrap_or (value_of b) 0

-- the byte that the pair of digits number i says
unfoldable pub byte_at : List ℕ → ℕ → ℕ
byte_at line i = nibble_of (get_or line (2 * i) 0) * 16 + nibble_of (get_or line (2 * i + 1) 0)

-- how many pairs a line of n bytes has, at most 32
unfoldable pub pairs_in : ℕ → ℕ
pairs_in n = cond (ltb (n / 2) 32) (n / 2) 32

-- the bytes of the first n pairs
unfoldable pub bytes_of : List ℕ → ℕ → List ℕ
bytes_of line zero = []
bytes_of line (suc n) = bytes_of line n ++ byte_at line n ∷ []

-- for the code 1234
unfoldable pub verdict_of : List ℕ → Verdict
verdict_of s = cond (is_text s) (cond (right (ascii "123400000") 4 s) Right Wrong) NoText
