-- Text laid down in lent memory, piece by piece.
use Rattle.std.specs.Prelude.{Bool, cond, List, [], ◌∷◌, ℕ, ◌+◌, ◌/◌, ◌%◌, eqb, ltb, length, take}
use Rattle.arrays.specs.Arrays.{put}
use Rattle.ascii.specs.Ascii.{ascii}
use Rattle.decimal.specs.Decimal.{decimal_of}
use Rattle.hexadecimal.specs.Hex.{digit, hex_of}

-- the memory, and the place after what was laid down
pub record Page : Type 0 where
  pub memory : List ℕ
  pub place : ℕ

abbrev pub page : List ℕ → ℕ → Page
page memory place = record { memory = memory; place = place }

-- a page, then what comes next
infixl 20 ◌▸◌
abbrev pub ◌▸◌ : Page → (Page → Page) → Page
p ▸ f = f p

-- a text; one that does not fit is left out, and so is all that comes behind it: the place is then past the end
unfoldable pub text : List ℕ → Page → Page
text s p =
    cond (ltb (length p.memory) p.place) p
    (cond (ltb (length p.memory) (p.place + length s)) (page p.memory (length p.memory + 1))
    (page (put p.memory p.place s) (p.place + length s)))

-- a number in decimal
abbrev pub number : ℕ → Page → Page
number n p = text (decimal_of n) p

-- bytes in hexadecimal
abbrev pub bytes : List ℕ → Page → Page
bytes s p = text (hex_of s) p

unfoldable pub yes_no : Bool → Page → Page
yes_no b p = cond b (text (ascii "yes") p) (text (ascii "no") p)

-- before every place of a list but the first
unfoldable pub comma : ℕ → Page → Page
comma i p = cond (eqb i 0) p (text (ascii ",") p)

unfoldable pub item : List ℕ → ℕ → Page → Page
item key n p = p ▸ text key ▸ number n

unfoldable pub flag : List ℕ → Bool → Page → Page
flag key b p = p ▸ text key ▸ yes_no b

unfoldable pub word : List ℕ → List ℕ → Page → Page
word key w p = p ▸ text key ▸ text w

-- bytes that are known, or none
unfoldable pub known : Bool → List ℕ → Page → Page
known b s p = cond b (bytes s p) (text (ascii "none") p)

-- n digits as bytes, or `-` for none
unfoldable pub digits : List ℕ → ℕ → Page → Page
digits code n p = cond (eqb n 0) (text (ascii "-") p) (bytes (take n code) p)

-- the digit of n for a unit, a power of 16, if n has one
unfoldable pub digit_from : ℕ → ℕ → Page → Page
digit_from n unit p = cond (ltb n unit) p (text (digit (n / unit % 16) ∷ []) p)

-- the upper four digits of a number of 32 bits
abbrev pub high_digits : ℕ → Page → Page
high_digits n p = p ▸ digit_from n 0x1000_0000 ▸ digit_from n 0x100_0000 ▸ digit_from n 0x10_0000 ▸ digit_from n 0x1_0000

-- a number of 32 bits in hexadecimal, without leading zeros
unfoldable pub hexadecimal : ℕ → Page → Page
hexadecimal n p =
    p ▸ high_digits n ▸ digit_from n 0x1000 ▸ digit_from n 0x100 ▸ digit_from n 0x10 ▸ text (digit (n % 16) ∷ [])
