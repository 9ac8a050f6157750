-- What the arguments of the program ask for.
use Rattle.std.specs.Prelude.{cond, List, ℕ, ltb, Result, Ok, Err}
use Rattle.arrays.specs.Arrays.{same_bytes}
use Rattle.ascii.specs.Ascii.{ascii}
use Rattle.replay_arguments.specs.declared.Asked.{Asked}
use Rattle.replay_arguments.specs.declared.Asked.TheVariants.{Lines, States}
use Rattle.replay_arguments.specs.declared.UnknownArgument.{UnknownArgument}

abbrev pub unknown : ℕ → UnknownArgument
unknown place = record { 0 = place }

-- none, or `--state` alone; `count` counts the name of the program too, and `first` is the argument behind it
unfoldable pub asked_by : ℕ → List ℕ → Result Asked UnknownArgument
asked_by count first = cond (ltb count 2) (Ok Lines) (cond (same_bytes first (ascii "--state")) (cond (ltb count 3) (Ok States) (Err (unknown 2))) (Err (unknown 1)))
