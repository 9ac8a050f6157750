-- The lines of the ids that are left, written from `end` on, make what is to be written, and the place after them is the
-- place that is told (`Walking`).
use Rattle.std.proofs.Common.{◌-◌}
use Rattle.car_lines.proofs.Walk.{Walking}
use Rattle.car_lines.proofs.put_phones.Given as goal

abbrev pub invariant-loop : goal.invariant-loop
invariant-loop l = Walking l.initial.dst l.at l.saved l.from l.count l.dst l.places (l.count - l.counter)
