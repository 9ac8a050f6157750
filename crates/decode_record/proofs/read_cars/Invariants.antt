-- The loop's invariant: what is kept of the cars read so far, and what is left to read from what remains (`Gathered`). The measure is
-- what is left of the count.
use mathlib.Core.List.{List}
use Rattle.saved_record.specs.SavedRecord.{CarIds}
use Rattle.decode_record.proofs.Cars.{Gathered}
use Rattle.decode_record.proofs.read_cars.Given as goal

abbrev pub invariant-loop-i : goal.invariant-loop-i
invariant-loop-i l = (done : List CarIds) × Gathered l.count l.part l.cars l.over l.rest l.i done
