use Rattle.std.proofs.Common.{◌≡◌, arith, rules, length, []}
use Rattle.arrays.proofs.Laws.{long_map}
use Rattle.validations.proofs.Laws.{cars_few, part_few, laid_none, laid_next, laid_all}
use Rattle.validations.proofs.laid_from.Goals as goal

pub offset_bounds-s-min : goal.offset_bounds-s-min
offset_bounds-s-min c = let few = cars_few c.args.s (search (rules, long_map)) in let n = c.car_count-n.ensures in omega arith

pub slice_bounds-cars-end : goal.slice_bounds-cars-end
slice_bounds-cars-end c =
    let far : length c.args.s.cars ≡ 4 = search (rules, long_map) in
    let few = cars_few c.args.s far in
    let n = c.car_count-n.ensures in
    omega arith

pub loop-k-init : goal.loop-k-init
loop-k-init c = laid_none c.empty_store-left.result [] c.empty_store-left.ensures

pub loop-k-preserved : goal.loop-k-preserved
loop-k-preserved c =
    let far : length c.args.s.cars ≡ 4 = search (rules, long_map) in
    laid_next _ c.loop-k.left.cars c.loop-k.k _ c.canonical_car.result (part_few _ _ _ far) c.loop-k-test.true c.loop-k.invariant c.canonical_car.ensures

pub returns : goal.returns
returns c =
    let n = c.car_count-n in
    laid_all c.args.s n.result c.args.from c.min.result c.loop-k.left.cars c.loop-k.k (search (rules, long_map)) n.ensures c.min.ensures c.loop-k-test.false c.loop-k.invariant
