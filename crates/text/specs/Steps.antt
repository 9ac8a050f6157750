-- What the private functions answer, on the way to what Text says. Only their contracts cite it.
use Rattle.std.specs.Prelude.{List, ℕ, ◌+◌, length, take, set}
use Rattle.arrays.specs.Arrays.{padded}
use Rattle.text.specs.declared.Grouped.{Grouped}

-- the first ten bytes of a string, zeros past them, and how many they are
unfoldable pub first_ten : List ℕ → Grouped
first_ten s = record { bytes = padded 10 0 (take 10 s); len = length (take 10 s) }

-- one byte more behind them
abbrev pub pushed : Grouped → ℕ → Grouped
pushed g b = record { bytes = set g.bytes g.len b; len = g.len + 1 }
