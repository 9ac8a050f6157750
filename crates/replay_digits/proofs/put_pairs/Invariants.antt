-- The invariant: the first i bytes are written.
use Rattle.std.proofs.Common.{◌≡◌, length}
use lib.Seq.{paste}
use Rattle.replay_digits.specs.Digits.{pairs_of}
use Rattle.replay_digits.proofs.put_pairs.Given as goal

abbrev pub invariant-loop-i : goal.invariant-loop-i
invariant-loop-i l = (length l.out ≡ length l.initial.out) × (l.out ≡ paste l.initial.out l.at (pairs_of l.s) l.i)
