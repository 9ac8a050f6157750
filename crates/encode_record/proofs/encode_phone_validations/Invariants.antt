-- The loop's invariant: the parts of the first cars are written (`Filled`).
use Rattle.std.proofs.Common.{map}
use Rattle.saved_record.specs.Store.{car_of}
use Rattle.encode_record.proofs.Writing.{Filled}
use Rattle.encode_record.proofs.encode_phone_validations.Given as goal

abbrev pub invariant-loop-car : goal.invariant-loop-car
invariant-loop-car l = Filled (map car_of l.car-items) l.bytes l.len l.car-index
