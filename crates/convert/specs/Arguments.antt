-- What the argument of the program asks for.
use Rattle.std.specs.Prelude.{cond, List, ℕ, eqb, Option, Some, None}
use Rattle.arrays.specs.Arrays.{same_bytes}
use Rattle.ascii.specs.Ascii.{ascii}
use Rattle.convert.specs.declared.Version.{Version}
use Rattle.convert.specs.declared.Version.TheVariants.{One, Two}

-- one argument, `1` or `2`; `count` counts the name of the program too
unfoldable pub target_of : ℕ → List ℕ → Option Version
target_of count word = cond (eqb count 2) (cond (same_bytes word (ascii "1")) (Some One) (cond (same_bytes word (ascii "2")) (Some Two) None)) None
