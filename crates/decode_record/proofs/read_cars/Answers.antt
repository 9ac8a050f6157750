use Rattle.std.proofs.Common.{[], ◌∷◌, ◌++◌, ◌≡◌, arith, cond, true}
use Rattle.decode_record.proofs.Cars.{told_none, told, gathered_none, gathered_refused, gathered_more, gathered_trailing, gathered_twice, gathered_large, gathered_all}
use Rattle.decode_record.proofs.read_cars.Goals as goal
use Rattle.decode_record.proofs.read_cars.Goals.{then-over, else-over}

pub loop-i-init : goal.loop-i-init
loop-i-init c = ([], rw c.empty_car-cars.ensures (gathered_none c.args.count c.args.part.now))

pub returns-in_default : goal.returns-in_default
returns-in_default c =
    let at = c.loop-i in
    gathered_refused c.args.count c.args.part.now at.cars at.over at.rest.now at.i at.invariant.0 c.requires at.invariant.1 c.loop-i-test.true (told_none at.rest.now (cc))

pub slice_bounds-rest-count : goal.slice_bounds-rest-count
slice_bounds-rest-count c = let t = told c.loop-i.rest.now c.in-Some.read (cc) in t.1.fits

pub slice_bounds-rest-start : goal.slice_bounds-rest-start
slice_bounds-rest-start c = let t = told c.loop-i.rest.now c.in-Some.read (cc) in t.1.fits

pub loop-i-preserved : goal.loop-i-preserved
loop-i-preserved c =
    let at = c.loop-i in
    let r = c.in-Some.read in
    let t = told at.rest.now r (cc) in
    let g = gathered_more c.args.count c.args.part.now at.cars at.over at.rest.now at.i at.invariant.0 c.requires at.invariant.1 r t.0 c.loop-i-test.true t.1 in
    let e : c.if-over.over ≡ cond at.over true r.over = elim c.if-over.branch [ then-over w ↦ rw (w.over-is, w.if-over.true) | else-over w ↦ rw (w.over-is, w.if-over.false) ] in
    (at.invariant.0 ++ (t.0 ∷ []), rw e g)

pub returns-then-not-is_empty : goal.returns-then-not-is_empty
returns-then-not-is_empty c =
    let at = c.loop-i in
    gathered_trailing c.args.count c.args.part.now at.cars at.over at.rest.now at.i at.invariant.0 c.requires at.invariant.1 (omega arith) (cc)

pub returns-then-car_twice : goal.returns-then-car_twice
returns-then-car_twice c =
    let at = c.loop-i in
    gathered_twice c.args.count c.args.part.now at.cars at.over at.rest.now at.i at.invariant.0 c.requires at.invariant.1 (omega arith) (cc) c.car_twice.result c.car_twice.ensures c.if-car_twice.true

pub returns-then-over-2 : goal.returns-then-over-2
returns-then-over-2 c =
    let at = c.loop-i in
    gathered_large c.args.count c.args.part.now at.cars at.over at.rest.now at.i at.invariant.0 c.requires at.invariant.1 (omega arith) (cc) c.car_twice.result c.car_twice.ensures c.if-car_twice.false c.if-over-2.true

pub returns : goal.returns
returns c =
    let at = c.loop-i in
    gathered_all c.args.count c.args.part.now at.cars at.over at.rest.now at.i at.invariant.0 c.requires at.invariant.1 (omega arith) (cc) c.car_twice.result c.car_twice.ensures c.if-car_twice.false c.if-over-2.false
