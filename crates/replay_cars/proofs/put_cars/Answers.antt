use Rattle.std.proofs.Common.{◌≡◌, ◌≤◌, length, sym, ◌∙◌, arith, rules}
use Rattle.arrays.proofs.Laws.{long_map}
use Rattle.saved_record.proofs.Laws.{used, used_clamped, used_length}
use Rattle.replay_page.specs.Page.{page}
use Rattle.replay_cars.proofs.Laws.{no_cars, some_cars, cars_again, cars_end}
use Rattle.replay_cars.proofs.put_cars.Goals as goal

pub returns-then-n-eq0 : goal.returns-then-n-eq0
returns-then-n-eq0 c =
    let a = c.args in
    let n = c.clamp_cars-n in
    let far : length a.s.cars ≡ 4 = search (rules, long_map) in
    let many = used_length n.result a.s.cars (omega arith) in
    c.put_no_car.ensures
    ∙ rw (← used_clamped a.s n.result far n.ensures) (no_cars (used n.result a.s.cars) (page a.out.now a.at) (many ∙ c.if-n-eq0.true))

pub loop-i-preserved : goal.loop-i-preserved
loop-i-preserved c =
    let a = c.args in
    let n = c.clamp_cars-n.result in
    let l = c.loop-i in
    let put = c.put_car-k in
    let far : length a.s.cars ≡ 4 = search (rules, long_map) in
    cars_again n a.s.cars (omega arith) l.i (page a.out.now a.at) (page l.out l.k) l.invariant (page put.new.out put.result) c.loop-i-test.true put.ensures

pub returns : goal.returns
returns c =
    let a = c.args in
    let n = c.clamp_cars-n in
    let l = c.loop-i in
    let far : length a.s.cars ≡ 4 = search (rules, long_map) in
    let fits : n.result ≤ length a.s.cars = omega arith in
    let many = used_length n.result a.s.cars fits in
    cars_end n.result a.s.cars fits l.i (page a.out.now a.at) (page l.out l.k) l.invariant c.loop-i-test.false
    ∙ rw (← used_clamped a.s n.result far n.ensures) (some_cars (used n.result a.s.cars) (page a.out.now a.at) (λ z. c.if-n-eq0.false (sym many ∙ z)))
