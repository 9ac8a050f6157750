-- The invariant: a length in use is too long if one is so from here on.
use mathlib.Core.Path.{◌≡◌}
use lib.Dec.{ltb}
use lib.ListN.{drop}
use Rattle.phones.specs.Ids.{some_of}
use Rattle.phones.proofs.list_in_range.Given as goal

abbrev pub invariant-loop-n : goal.invariant-loop-n
invariant-loop-n l = some_of (ltb 32) l.n-items ≡ some_of (ltb 32) (drop l.n-index l.n-items)
