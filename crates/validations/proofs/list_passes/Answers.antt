-- Where a car has the digest, its list is tested; else there is none.
use Rattle.std.proofs.Common.{◌≡◌, refl, inl, inr, arith, rules, length}
use Rattle.arrays.proofs.Laws.{long_map}
use Rattle.validations.proofs.Laws.{found_in, not_found_in}
use Rattle.validations.proofs.list_passes.Goals as goal

pub returns-in-None : goal.returns-in-None
returns-in-None g c =
    let far : length c.args.s.cars ≡ 4 = search (rules, long_map) in
    inr (not_found_in c.args.s far c.args.car (cc), refl)

pub returns-in-Some-eq0 : goal.returns-in-Some-eq0
returns-in-Some-eq0 g c =
    let far : length c.args.s.cars ≡ 4 = search (rules, long_map) in
    inl (_, (found_in c.args.s far c.args.car 0 (cc)).1, c.test.ensures)

pub returns-in-Some-eq1 : goal.returns-in-Some-eq1
returns-in-Some-eq1 g c =
    let far : length c.args.s.cars ≡ 4 = search (rules, long_map) in
    inl (_, (found_in c.args.s far c.args.car 1 (cc)).1, c.test-in-Some-eq1.ensures)

pub returns-in-Some-eq2 : goal.returns-in-Some-eq2
returns-in-Some-eq2 g c =
    let far : length c.args.s.cars ≡ 4 = search (rules, long_map) in
    inl (_, (found_in c.args.s far c.args.car 2 (cc)).1, c.test-in-Some-eq2.ensures)

pub returns : goal.returns
returns g c =
    let far : length c.args.s.cars ≡ 4 = search (rules, long_map) in
    let within = (found_in c.args.s far c.args.car c.in-Some.field-0 (cc)).0 in
    let last : c.in-Some.field-0 ≡ 3 = omega arith in
    inl (_, (found_in c.args.s far c.args.car 3 (cc)).1, c.test-in-Some.ensures)
