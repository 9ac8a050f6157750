use Rattle.std.proofs.Common.{arith, length-set}
use Rattle.phone_fields.proofs.Writing.{put_field_lem, field_length}
use Rattle.phone_fields.proofs.put_field.Goals as goal

pub bounds-out-at : goal.bounds-out-at
bounds-out-at c = omega (arith, field_length c.args.at c.args.p.now)

pub put-requires : goal.put-requires
put-requires c = rw length-set (omega (arith, field_length c.args.at c.args.p.now))

pub returns-clause-place : goal.returns-clause-place
returns-clause-place c = field_length c.args.at c.args.p.now

pub returns-clause-written : goal.returns-clause-written
returns-clause-written c = rw c.put.ensures (put_field_lem c.args.out.now c.args.at c.args.p.now (omega (arith, field_length c.args.at c.args.p.now)))
