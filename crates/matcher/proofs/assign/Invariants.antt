-- The invariant: what is left to do is to give entries to the frames from i on, with the marks as they are.
use Rattle.std.proofs.Common.{◌≡◌, length}
use Rattle.matcher.specs.Match.{paired}
use Rattle.matcher.proofs.Steps.{Turn}
use Rattle.matcher.proofs.assign.Given as goal

abbrev pub invariant-loop-i : goal.invariant-loop-i
invariant-loop-i l = (length l.used ≡ 512) × Turn (paired l.sent l.journal) (paired l.seen l.recorder) l.used l.i
