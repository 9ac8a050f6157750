-- What stands from start to end is what is left, trimmed, of the code points before at.
use Rattle.std.proofs.Common.{◌-◌, length}
use Rattle.text.proofs.Scan.{Scanned}
use Rattle.text.proofs.trim.Given as goal

abbrev pub invariant-loop-at : goal.invariant-loop-at
invariant-loop-at l = Scanned l.s l.start l.end l.at

abbrev pub decreases-loop-at : goal.decreases-loop-at
decreases-loop-at l = length l.s - l.at
