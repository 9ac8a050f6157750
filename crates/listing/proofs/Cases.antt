-- P12 and P13 of document 01 as the listing program prints them.
use Rattle.std.proofs.Common.{◌≡◌, [], ◌∷◌, ◌++◌, ℕ}
use Rattle.ascii.specs.Ascii.{ascii}
use Rattle.decimal.specs.Decimal.{digits_up_to, decimal_of}
use Rattle.hexadecimal.specs.Hex.{digit, hex_of}
use Rattle.saved_record.proofs.Cases.{the_record, p12, p13}
use Rattle.car_lines.specs.Lines.{line, phone_lines, car_lines}
use Rattle.listing.specs.Listing.{each_car, accepted_lines, refused_lines, lines_of, lines}

pub p12_lines : lines the_record ≡ ascii "answer=ok\ncar=1111111111111111111111111111111111111111111111111111111111111111\nphones=1\nphone=a1b2\n"
unfolding lines lines_of accepted_lines each_car car_lines phone_lines line hex_of digit decimal_of digits_up_to
p12_lines = rw p12

pub p13_lines : (x : ℕ) → lines (the_record ++ (x ∷ [])) ≡ ascii "answer=refused\n"
unfolding lines lines_of refused_lines line
p13_lines x = rw (p13 x)
