use Rattle.std.proofs.Common.{◌≡◌, refl, sym, ap, ◌∙◌, [], ◌∷◌, ◌++◌, arith, rules, length, get_or}
use Rattle.arrays.proofs.Laws.{long_map}
use Rattle.phones.specs.declared.PhoneList.{PhoneList}
use Rattle.phones.specs.Ids.{pushed}
use Rattle.phones.specs.Phones.{id_bytes, phones_of, laid}
use Rattle.saved_record.proofs.Laws.{past_cars}
use Rattle.validations.proofs.Laws.{cars_few, phones_at}
use Rattle.add_validation.proofs.Laws.{car_at, car_none, grown, not_grown, validated_there, validated_full, validated_more, validated_new}
use Rattle.add_validation.proofs.validate.Goals as goal

pub returns-then-car_count-at : goal.returns-then-car_count-at
returns-then-car_count-at c =
    let a = c.args in
    c.add_car.ensures ∙ validated_new a.s a.car (id_bytes a.p) (car_none a.s a.car c.place_of-at.result c.car_count.result c.place_of-at.ensures c.car_count.ensures c.if-car_count-at.true)

pub offset_bounds-s-at : goal.offset_bounds-s-at
offset_bounds-s-at c = let few = cars_few c.args.s (search (rules, long_map)) in let n = c.car_count.ensures in let h = c.if-car_count-at.false in omega arith

pub bounds-s-at : goal.bounds-s-at
bounds-s-at c = let few = cars_few c.args.s (search (rules, long_map)) in let n = c.car_count.ensures in let h = c.if-car_count-at.false in omega arith

pub returns-then-contains_id : goal.returns-then-contains_id
returns-then-contains_id c =
    let a = c.args in
    let n = c.car_count in
    let at = c.place_of-at in
    let has = car_at a.s a.car at.result n.result at.ensures n.ensures c.if-car_count-at.false in
    let list = (get_or a.s.cars at.result past_cars).phones in
    let lists = phones_at a.s (search (rules, long_map)) a.car at.result n.result at.ensures n.ensures at.result refl c.if-car_count-at.false in
    validated_there a.s a.car (id_bytes a.p) list lists has (sym c.contains_id.ensures ∙ c.if-contains_id.true)

pub put_phones-requires : goal.put_phones-requires
put_phones-requires c = let n = c.car_count.ensures in let h = c.if-car_count-at.false in omega arith

pub returns-then-count : goal.returns-then-count
returns-then-count c =
    let a = c.args in
    let n = c.car_count in
    let at = c.place_of-at in
    let has = car_at a.s a.car at.result n.result at.ensures n.ensures c.if-car_count-at.false in
    let list = (get_or a.s.cars at.result past_cars).phones in
    let lists = phones_at a.s (search (rules, long_map)) a.car at.result n.result at.ensures n.ensures at.result refl c.if-car_count-at.false in
    let id = id_bytes a.p in
    let more = c.append-more.ensures in
    let count = c.count.ensures in
    let longer : c.count-2.result ≡ length (phones_of (laid list (pushed id (phones_of list)))) = c.count-2.ensures ∙ ap (λ (x : PhoneList). length (phones_of x)) more in
    let h = c.if-count.true in
    let g = grown list id (omega arith) in
    let ps = phones_of list ++ (id ∷ []) in
    c.put_phones.ensures ps (more ∙ ap (laid list) g)
    ∙ validated_more a.s a.car id list lists has (sym c.contains_id.ensures ∙ c.if-contains_id.false) at.result ps at.ensures g

pub returns-else-count : goal.returns-else-count
returns-else-count c =
    let a = c.args in
    let n = c.car_count in
    let at = c.place_of-at in
    let has = car_at a.s a.car at.result n.result at.ensures n.ensures c.if-car_count-at.false in
    let list = (get_or a.s.cars at.result past_cars).phones in
    let lists = phones_at a.s (search (rules, long_map)) a.car at.result n.result at.ensures n.ensures at.result refl c.if-car_count-at.false in
    let id = id_bytes a.p in
    let more = c.append-more.ensures in
    let count = c.count.ensures in
    let longer : c.count-2.result ≡ length (phones_of (laid list (pushed id (phones_of list)))) = c.count-2.ensures ∙ ap (λ (x : PhoneList). length (phones_of x)) more in
    let h = c.if-count.false in
    validated_full a.s a.car id list lists has (sym c.contains_id.ensures ∙ c.if-contains_id.false) (not_grown list id (omega arith))
