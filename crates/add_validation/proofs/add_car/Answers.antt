use Rattle.std.proofs.Common.{◌≡◌, ap, sym, ◌∙◌, [], ◌∷◌, arith, rules, length}
use Rattle.arrays.proofs.Laws.{long_map}
use Rattle.phones.specs.Phones.{id_bytes}
use Rattle.phones.proofs.Laws.{used_length}
use Rattle.saved_record.specs.Store.{laid_car, cars_of, store_of}
use Rattle.validations.specs.Store.{displaced}
use Rattle.validations.proofs.Laws.{cars_few}
use Rattle.add_validation.proofs.Laws.{append_one, dropped_count, first_goes, none_goes}
use Rattle.add_validation.proofs.add_car.Goals.{then-car_count-gt3, else-car_count-gt3}
use Rattle.add_validation.proofs.add_car.Goals as goal

pub put_last-requires : goal.put_last-requires
put_last-requires c =
    let s = c.args.s in
    let n = c.car_count in
    let few = cars_few s (search (rules, long_map)) in
    let many = n.ensures in
    elim c.if-car_count-gt3.branch [
      | then-car_count-gt3 w ↦ rw w.others-is (let k = dropped_count s w.laid_from-others.result n.result 1 n.ensures w.laid_from-others.ensures in omega arith)
      | else-car_count-gt3 w ↦ rw w.others-is (let k = dropped_count s w.canonical-others.result n.result 0 n.ensures w.canonical-others.ensures in let h = w.if-car_count-gt3.false in omega arith)
    ]

pub returns : goal.returns
unfolding laid_car
returns c =
    let a = c.args in
    let n = c.car_count in
    let wide : length a.p.bytes ≡ 32 = search rules in
    let short = used_length a.p wide in
    let one = append_one (id_bytes a.p) (omega arith) in
    let others : c.if-car_count-gt3.others ≡ store_of (displaced (cars_of a.s)) =
    elim c.if-car_count-gt3.branch [
      | then-car_count-gt3 w ↦ w.others-is ∙ w.laid_from-others.ensures ∙ ap store_of (sym (first_goes a.s n.result n.ensures w.if-car_count-gt3.true))
      | else-car_count-gt3 w ↦ w.others-is ∙ w.canonical-others.ensures ∙ ap store_of (sym (none_goes a.s n.result n.ensures w.if-car_count-gt3.false))
    ] in
    c.put_last.ensures (displaced (cars_of a.s)) (record { car = a.car; phones = id_bytes a.p ∷ [] }) others (rw (c.append-phones.ensures, c.empty_list.ensures, one))
