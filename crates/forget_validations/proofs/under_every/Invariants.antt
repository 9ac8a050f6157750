-- The invariant: what is left of the cars up to c lies in the first places.
use Rattle.std.proofs.Common.{◌≤◌}
use Rattle.forget_validations.proofs.Laws.{Leaving}
use Rattle.forget_validations.proofs.under_every.Given as goal

abbrev pub invariant-loop-c : goal.invariant-loop-c
invariant-loop-c g l = (l.left.count ≤ l.c-index) × Leaving (goal.F-post g l.left_of) l.cars l.c-index l.left.cars l.left.count
