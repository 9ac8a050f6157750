use Rattle.std.proofs.Common.{refl, [], arith, rules}
use Rattle.arrays.proofs.Laws.{long_map}
use Rattle.phones.proofs.Laws.{phones_of_list}
use Rattle.validations.proofs.Laws.{cars_few, phones_at, no_phones}
use Rattle.validations.proofs.phones_for.Goals as goal

pub offset_bounds-s-at : goal.offset_bounds-s-at
offset_bounds-s-at c = let few = cars_few c.args.s (search (rules, long_map)) in let n = c.car_count.ensures in omega arith

pub bounds-s-at : goal.bounds-s-at
bounds-s-at c = let few = cars_few c.args.s (search (rules, long_map)) in let n = c.car_count.ensures in omega arith

pub returns-then-at-car_count : goal.returns-then-at-car_count
returns-then-at-car_count c = phones_at _ (search (rules, long_map)) _ _ _ c.place_of-at.ensures c.car_count.ensures _ refl c.if-at-car_count.true

pub returns-else-at-car_count : goal.returns-else-at-car_count
returns-else-at-car_count c =
    rw (c.empty_list.ensures, no_phones _ (search (rules, long_map)) _ _ _ c.place_of-at.ensures c.car_count.ensures c.if-at-car_count.false) (phones_of_list [])
