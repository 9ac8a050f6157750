-- What `read_fields` says of the phones after the count decides.
use Rattle.std.proofs.Common.{arith, Ok, Err}
use Rattle.phone_fields.specs.declared.FieldsError.TheVariants.{Malformed, TooLarge}
use Rattle.decode_record.proofs.Reading.{part_within, answered_all}
use Rattle.decode_record.proofs.read_car.Goals as goal

pub whole_part-requires : goal.whole_part-requires
whole_part-requires c = part_within c.args.rest.now c.from.result c.if-rest-lt33.false (Ok c.in-Ok.read) (cc)

pub whole_part-requires-in-Err-TooLarge : goal.whole_part-requires-in-Err-TooLarge
whole_part-requires-in-Err-TooLarge c = part_within c.args.rest.now c.from.result c.if-rest-lt33.false (Err (TooLarge c.in-Err-TooLarge.used)) (cc)

pub returns-in-Ok : goal.returns-in-Ok
returns-in-Ok c =
    rw c.whole_part.ensures (answered_all c.args.rest.now c.from.result c.if-rest-lt33.false (Ok c.in-Ok.read) (cc) (omega arith) (λ z. absurd (omega arith)))

pub returns-in-Err-Malformed : goal.returns-in-Err-Malformed
returns-in-Err-Malformed c = answered_all c.args.rest.now c.from.result c.if-rest-lt33.false (Err Malformed) (cc) (omega arith) (λ z. absurd (omega arith))

pub returns-in-Err-TooLarge : goal.returns-in-Err-TooLarge
returns-in-Err-TooLarge c =
    rw (c.whole_part-in-Err-TooLarge.ensures, c.empty_list.ensures)
    (answered_all c.args.rest.now c.from.result c.if-rest-lt33.false (Err (TooLarge c.in-Err-TooLarge.used)) (cc) (omega arith) (λ z. absurd (omega arith)))
