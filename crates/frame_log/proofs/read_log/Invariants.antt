-- The invariant (`Kept`): what the arrays hold are the entries read so far, and the rest of the text decides the rest.
use Rattle.std.proofs.Common.{length}
use Rattle.frame_log.proofs.Reading.{Kept}
use Rattle.frame_log.proofs.read_log.Given as goal

abbrev pub invariant-loop-rest : goal.invariant-loop-rest
invariant-loop-rest l = Kept l.s l.rest l.frames l.times l.n l.last

abbrev pub decreases-loop-rest : goal.decreases-loop-rest
decreases-loop-rest l = length l.rest
