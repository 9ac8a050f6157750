use Rattle.std.proofs.Common.{rules}
use Rattle.arrays.proofs.Laws.{long_map}
use Rattle.encode_record.proofs.Writing.{none_written, head, next, written}
use Rattle.encode_record.proofs.encode_phone_validations.Goals as goal

pub returns-then-n-eq0 : goal.returns-then-n-eq0
returns-then-n-eq0 c = rw c.no_record.ensures (none_written c.args.store c.clamp_cars-n.result (search (rules, long_map)) c.clamp_cars-n.ensures c.if-n-eq0.true)

pub loop-car-init : goal.loop-car-init
loop-car-init c = head c.args.store c.clamp_cars-n.result (search (rules, long_map)) c.clamp_cars-n.ensures

pub loop-car-preserved : goal.loop-car-preserved
loop-car-preserved c =
    let loop = c.loop-car in
    let put = c.put_car-len in
    next c.args.store c.clamp_cars-n.result (search (rules, long_map)) c.clamp_cars-n.ensures loop.bytes loop.len loop.car-index loop.invariant _ put.new.out put.result c.loop-car-test.true put.ensures

pub returns : goal.returns
returns c =
    let loop = c.loop-car in
    written c.args.store c.clamp_cars-n.result (search (rules, long_map)) c.clamp_cars-n.ensures loop.bytes loop.len loop.car-index loop.invariant c.if-n-eq0.false c.loop-car-test.false
