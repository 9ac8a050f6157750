-- The digest, the count and the phones, each right after the one before.
use Rattle.std.proofs.Common.{◌≡◌, ◌≤◌, ◌∙◌, arith, rules, length, length-set}
use Rattle.phones.specs.Phones.{phones_of}
use Rattle.phones.proofs.Owned.{owned_count}
use Rattle.phone_fields.specs.PhoneFields.{fields}
use Rattle.saved_record.specs.Store.{car_of}
use Rattle.saved_record.proofs.Parts.{part_length}
use Rattle.encode_record.proofs.Writing.{put_part}
use Rattle.phone_fields.proofs.Laws.{owned_fields}
use Rattle.encode_record.proofs.put_car.Goals as goal

pub overflow_cast-out : goal.overflow_cast-out
overflow_cast-out c = let few : length (phones_of c.args.c.phones) ≤ 32 = search (rules, owned_count) in omega arith

pub put_fields-requires : goal.put_fields-requires
put_fields-requires c =
    let room : length (fields (phones_of c.args.c.phones)) ≤ 1056 = search (rules, owned_fields) in
    rw length-set (omega arith)

pub returns : goal.returns
unfolding car_of
returns c =
    let far : length c.args.c.car ≡ 32 = search rules in
    let fits : length (fields (phones_of c.args.c.phones)) ≤ 1056 = search (rules, owned_fields) in
    let l = part_length (car_of c.args.c) in
    let put = c.put_fields.ensures in
    record {
      bytes = put.1 ∙ rw c.put.ensures (put_part c.args.out.now c.args.at (car_of c.args.c) c.count.result far c.count.ensures (omega arith));
      place = put.0 ∙ (omega arith);
      short = omega arith;
    }
