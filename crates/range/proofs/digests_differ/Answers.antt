use Rattle.saved_record.specs.Steps.{twice_at}
use Rattle.range.proofs.digests_differ.Goals as goal

pub returns-then-is_car : goal.returns-then-is_car
unfolding twice_at
returns-then-is_car c = rw (← c.is_car.ensures, c.if-is_car.true)

pub returns-then-is_car-2 : goal.returns-then-is_car-2
unfolding twice_at
returns-then-is_car-2 c = rw (← c.is_car.ensures, c.if-is_car.false, ← c.is_car-2.ensures, c.if-is_car-2.true)

pub returns-then-is_car-3 : goal.returns-then-is_car-3
unfolding twice_at
returns-then-is_car-3 c = rw (← c.is_car.ensures, c.if-is_car.false, ← c.is_car-2.ensures, c.if-is_car-2.false, ← c.is_car-3.ensures, c.if-is_car-3.true)

pub returns-then-is_car-4 : goal.returns-then-is_car-4
unfolding twice_at
returns-then-is_car-4 c = rw (← c.is_car.ensures, c.if-is_car.false, ← c.is_car-2.ensures, c.if-is_car-2.false, ← c.is_car-3.ensures, c.if-is_car-3.false, ← c.is_car-4.ensures, c.if-is_car-4.true)

pub returns-then-is_car-5 : goal.returns-then-is_car-5
unfolding twice_at
returns-then-is_car-5 c = rw (← c.is_car.ensures, c.if-is_car.false, ← c.is_car-2.ensures, c.if-is_car-2.false, ← c.is_car-3.ensures, c.if-is_car-3.false, ← c.is_car-4.ensures, c.if-is_car-4.false, ← c.is_car-5.ensures, c.if-is_car-5.true)

pub returns-then-is_car-6 : goal.returns-then-is_car-6
unfolding twice_at
returns-then-is_car-6 c = rw (← c.is_car.ensures, c.if-is_car.false, ← c.is_car-2.ensures, c.if-is_car-2.false, ← c.is_car-3.ensures, c.if-is_car-3.false, ← c.is_car-4.ensures, c.if-is_car-4.false, ← c.is_car-5.ensures, c.if-is_car-5.false, ← c.is_car-6.ensures, c.if-is_car-6.true)

pub returns : goal.returns
unfolding twice_at
returns c = rw (← c.is_car.ensures, c.if-is_car.false, ← c.is_car-2.ensures, c.if-is_car-2.false, ← c.is_car-3.ensures, c.if-is_car-3.false, ← c.is_car-4.ensures, c.if-is_car-4.false, ← c.is_car-5.ensures, c.if-is_car-5.false, ← c.is_car-6.ensures, c.if-is_car-6.false)
