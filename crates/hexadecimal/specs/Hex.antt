-- Hexadecimal digits as ASCII text: 48 is `0`, 65 is `A`, 97 is `a`.
use Rattle.std.specs.Prelude.{cond, List, [], ◌∷◌, ℕ, ◌+◌, ◌-◌, ◌/◌, ◌%◌, ltb, Option, Some, None}

-- the digit of a number below 16, in lower case
unfoldable pub digit : ℕ → ℕ
digit n = cond (ltb n 10) (48 + n) (87 + n)

-- two digits for each byte, the high one first
unfoldable pub hex_of : List ℕ → List ℕ
hex_of [] = []
hex_of (b ∷ bs) = digit (b / 16) ∷ digit (b % 16) ∷ hex_of bs

-- the value of a byte of text as a digit: `0` to `9`, `A` to `F` and `a` to `f` have one
unfoldable pub value_of : ℕ → Option ℕ
value_of b =
    cond (ltb b 48) None
    (cond (ltb b 58) (Some (b - 48))
    (cond (ltb b 65) None
    (cond (ltb b 71) (Some (b - 55))
    (cond (ltb b 97) None
    (cond (ltb b 103) (Some (b - 87))
    None)))))
