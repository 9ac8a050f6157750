-- The first i bytes are written.
use Rattle.std.proofs.Common.{◌≡◌, length}
use Rattle.arrays.specs.Arrays.{padded}
use Rattle.text_cases.specs.Cases.{bytes_of}
use Rattle.text_cases.proofs.bytes_of.Given as goal

abbrev pub invariant-loop-i : goal.invariant-loop-i
invariant-loop-i l = (length l.bytes ≡ 32) × (l.bytes ≡ padded 32 0 (bytes_of l.line l.i))
