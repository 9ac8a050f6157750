-- Lines of a log: 02, W-213.
use Rattle.std.specs.Prelude.{◌≡◌, Bool, true, false, cond, List, [], ◌∷◌, ◌++◌, ℕ, ◌/◌, ◌%◌, ◌≤◌, ◌<◌, ltb, length}
use Rattle.ascii.specs.Ascii.{ascii}
use Rattle.decimal.specs.Decimal.{decimal_of}
use Rattle.hexadecimal.specs.Hex.{digit, hex_of}
use Rattle.frames.specs.Frames.{raw_of, can_id_in_range}
use Rattle.frames.specs.declared.Id.{Id}
use Rattle.frames.specs.declared.Id.TheVariants.{Standard, Extended}
use Rattle.log_entries.specs.Entries.{Entry}

-- texts one behind the other
unfoldable pub joined : List (List ℕ) → List ℕ
joined [] = []
joined (s ∷ ss) = s ++ joined ss

-- the digit of n for a unit, a power of 16, if n has one
unfoldable pub digit_at : ℕ → ℕ → List ℕ
digit_at n unit = cond (ltb n unit) [] (digit (n / unit % 16) ∷ [])

abbrev pub hex_digits : ℕ → List (List ℕ)
hex_digits n =
    digit_at n 0x1000_0000 ∷ digit_at n 0x100_0000 ∷ digit_at n 0x10_0000 ∷ digit_at n 0x1_0000
    ∷ digit_at n 0x1000 ∷ digit_at n 0x100 ∷ digit_at n 0x10 ∷ (digit (n % 16) ∷ []) ∷ []

-- a number of 32 bits in hexadecimal, in lower case and without leading zeros
unfoldable pub hexadecimal_of : ℕ → List ℕ
hexadecimal_of n = joined (hex_digits n)

abbrev pub kind_of : Id → List ℕ
kind_of (Standard n) = ascii "std"
kind_of (Extended n) = ascii "ext"

-- "lines `time= bus= kind= id= dlc= data=` in that order, separated by one space .. each line ends with byte 10"
unfoldable pub line_of : Entry → List ℕ
line_of e = joined (
    ascii "time=" ∷ decimal_of e.time
    ∷ ascii " bus=" ∷ decimal_of e.frame.bus
    ∷ ascii " kind=" ∷ kind_of e.frame.id
    ∷ ascii " id=" ∷ hexadecimal_of (raw_of e.frame.id)
    ∷ ascii " dlc=" ∷ decimal_of e.frame.dlc
    ∷ ascii " data=" ∷ hex_of e.frame.data
    ∷ (10 ∷ []) ∷ [])

unfoldable pub all_bytes : List ℕ → Bool
all_bytes [] = true
all_bytes (b ∷ bs) = cond (ltb b 256) (all_bytes bs) false

-- "Time fits 64 bits, bus is 0 to 3, dlc 0 to 8, ids as for 24"; eight bytes of data
pub record InForm (e : Entry) : Type 0 where
  pub time : e.time < 18446744073709551616
  pub bus : e.frame.bus ≤ 3
  pub dlc : e.frame.dlc ≤ 8
  pub id : can_id_in_range e.frame.id ≡ true
  pub eight : length e.frame.data ≡ 8
  pub bytes : all_bytes e.frame.data ≡ true
