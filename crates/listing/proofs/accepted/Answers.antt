use Rattle.std.proofs.Common.{◌≡◌, ◌<◌, take, length, rules}
use Rattle.std.proofs.Math.ListN.{get_or-map, length-map}
use Rattle.arrays.proofs.Laws.{long_map}
use Rattle.saved_record.specs.Store.{car_of, cars_of}
use Rattle.saved_record.proofs.Laws.{past_cars, used, used_clamped}
use Rattle.listing.proofs.Cars.{listed_first, listed_stands, listed_fits, listed_more, listed_all}
use Rattle.listing.proofs.accepted.Goals as goal

pub loop-car-init : goal.loop-car-init
loop-car-init c =
    let w = c.put_text-end in
    let far : length c.args.store.cars ≡ 4 = search (rules, long_map) in
    let size : length w.new.dst ≡ 9414 = w.auto.dst in
    rw (used_clamped c.args.store c.clamp_cars.result far c.clamp_cars.ensures)
    (listed_first c.args.saved.now (cars_of c.args.store) c.args.from c.requires.0 c.requires.1 w.new.dst w.result w.ensures size)

pub put_car-places-requires : goal.put_car-places-requires
put_car-places-requires c =
    let cars = take c.clamp_cars.result c.args.store.cars in
    let l = c.loop-car in
    let more : l.car-index < length (used c.clamp_cars.result c.args.store.cars) = rw length-map c.loop-car-test.true in
    let here = get_or-map car_of cars l.car-index past_cars in (
      listed_stands c.args.saved.now _ l.bytes l.places.end l.places.next l.car-index l.invariant (car_of past_cars) _ more here,
      listed_fits c.args.saved.now _ l.bytes l.places.end l.places.next l.car-index l.invariant (car_of past_cars) _ more here,
    )

pub loop-car-preserved : goal.loop-car-preserved
loop-car-preserved c =
    let cars = take c.clamp_cars.result c.args.store.cars in
    let l = c.loop-car in
    let more : l.car-index < length (used c.clamp_cars.result c.args.store.cars) = rw length-map c.loop-car-test.true in
    let here = get_or-map car_of cars l.car-index past_cars in
    let w = c.put_car-places in
    rw w.ensures.read
    (listed_more c.args.saved.now _ l.bytes l.places.end l.places.next l.car-index l.invariant (car_of past_cars) _ more here w.new.dst w.result.end w.ensures.wrote w.auto.dst)

pub returns : goal.returns
returns c =
    let l = c.loop-car in
    let far : length c.args.store.cars ≡ 4 = search (rules, long_map) in
    rw (← used_clamped c.args.store c.clamp_cars.result far c.clamp_cars.ensures)
    (listed_all c.args.saved.now _ l.bytes l.places.end l.places.next l.car-index l.invariant (rw length-map c.loop-car-test.false))
