-- The lines of a car: document 01, "The listing program reads a record".
use Rattle.std.specs.Prelude.{List, [], ◌∷◌, ◌++◌, ℕ, length}
use Rattle.ascii.specs.Ascii.{ascii}
use Rattle.decimal.specs.Decimal.{decimal_of}
use Rattle.hexadecimal.specs.Hex.{hex_of}
use Rattle.saved_record.specs.SavedRecord.{CarIds}

-- "Each line ends with byte 10."
unfoldable pub line : List ℕ → List ℕ → List ℕ
line name value = name ++ value ++ (10 ∷ [])

-- "one line per id, in lower hexadecimal"
unfoldable pub phone_lines : List (List ℕ) → List ℕ
phone_lines [] = []
phone_lines (p ∷ ps) = line (ascii "phone=") (hex_of p) ++ phone_lines ps

-- "the digest, the count and one line per id"
unfoldable pub car_lines : CarIds → List ℕ
car_lines c = line (ascii "car=") (hex_of c.car) ++ line (ascii "phones=") (decimal_of (length c.phones)) ++ phone_lines c.phones
