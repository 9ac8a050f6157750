-- The invariant: the cars up to k lie in the first places.
use Rattle.std.proofs.Common.{◌≡◌, take}
use Rattle.validations.proofs.Laws.{laid_of}
use Rattle.validations.proofs.laid_from.Given as goal

abbrev pub invariant-loop-k : goal.invariant-loop-k
invariant-loop-k l = l.left.cars ≡ laid_of (take l.k l.cars)
