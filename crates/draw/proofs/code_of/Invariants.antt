-- The code is the first k digits of the rest with what stands from k on.
use Rattle.std.proofs.Common.{◌≡◌, ◌++◌, ◌≤◌, length, drop}
use Rattle.arrays.specs.Arrays.{padded}
use Rattle.draw.specs.Draw.{digits}
use Rattle.draw.proofs.code_of.Given as goal

abbrev pub invariant-loop-k : goal.invariant-loop-k
invariant-loop-k l = (l.n ≤ 9) × (length l.code ≡ 9) × (padded 9 0 (digits l.v l.n) ≡ digits l.rest l.k ++ drop l.k l.code)
