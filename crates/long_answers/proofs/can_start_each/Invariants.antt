-- The invariant: the first i answers are there, then no.
use Rattle.std.proofs.Common.{◌≡◌, false, length, take}
use Rattle.arrays.specs.Arrays.{padded}
use Rattle.answers.specs.Answers.{can_start_from}
use Rattle.long_answers.proofs.can_start_each.Given as goal

abbrev pub invariant-loop-i : goal.invariant-loop-i
invariant-loop-i l = (length l.list ≡ 8) × (length l.out ≡ 8) × (l.out ≡ padded 8 false (can_start_from l.core 0 (take l.i l.list)))
