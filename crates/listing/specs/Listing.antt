-- What the listing program prints: document 01, "The listing program reads a record", and document 02, W-207.
use Rattle.std.specs.Prelude.{cond, List, [], ◌∷◌, ◌++◌, ℕ, ltb, length}
use Rattle.arrays.specs.Arrays.{padded}
use Rattle.ascii.specs.Ascii.{ascii}
use Rattle.saved_record.specs.SavedRecord.{CarIds, Reading, malformed, car_twice, too_large, ok, decoded}
use Rattle.car_lines.specs.Lines.{line, car_lines}
use Rattle.listing.specs.declared.Listing.{Listing}

-- "repeats its car, phones and phone lines for each car"
unfoldable pub each_car : List CarIds → List ℕ
each_car [] = []
each_car (c ∷ cs) = car_lines c ++ each_car cs

-- the verdict, and then the cars
unfoldable pub accepted_lines : List CarIds → List ℕ
accepted_lines cs = line (ascii "answer=") (ascii "ok") ++ each_car cs

-- "prints only `answer=refused`"
unfoldable pub refused_lines : List ℕ
refused_lines = line (ascii "answer=") (ascii "refused")

-- "A refusal (22 and 23 as on restore ..)", and 28 "in the listing too"
unfoldable pub lines_of : Reading → List ℕ
lines_of malformed = refused_lines
lines_of car_twice = refused_lines
lines_of too_large = refused_lines
lines_of (ok cs) = accepted_lines cs

-- "The listing takes up to 8 KiB"; "a longer input is refused"
unfoldable pub lines : List ℕ → List ℕ
lines input = cond (ltb 8192 (length input)) refused_lines (lines_of (decoded input))

-- lines by value: zeros past them, and their length
unfoldable pub listed : List ℕ → Listing
listed text = record { bytes = padded 9414 0 text; len = length text }

unfoldable pub listing_of : List ℕ → Listing
listing_of input = listed (lines input)
