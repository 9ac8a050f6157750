-- The lines of the cars that are left, written from `end` on, make what is to be written, and their parts stand in the record
-- from `next` on.
use Rattle.std.proofs.Common.{map}
use Rattle.saved_record.specs.Store.{car_of}
use Rattle.listing.proofs.Cars.{Listed}
use Rattle.listing.proofs.accepted.Given as goal

abbrev pub invariant-loop-car : goal.invariant-loop-car
invariant-loop-car l = Listed l.saved (map car_of l.car-items) l.bytes l.places.end l.places.next l.car-index
