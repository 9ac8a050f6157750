-- Three texts, each after the one before; the reader meets the phones of the car after the 33 bytes before them.
use Rattle.std.proofs.Common.{◌≡◌, length, arith, rules}
use Rattle.saved_record.specs.SavedRecord.{car_part}
use Rattle.saved_record.specs.Store.{car_of}
use Rattle.saved_record.proofs.Parts.{part_length}
use Rattle.car_lines.proofs.Car.{lines_parts, car_written}
use Rattle.car_lines.proofs.Walk.{stands_within, car_walk}
use Rattle.car_lines.proofs.put_car.Goals as goal

pub put_hex_line-first-requires : goal.put_hex_line-first-requires
unfolding car_of
put_hex_line-first-requires c = let l = lines_parts (car_of c.args.c) in let h = c.requires.1 in omega arith

pub put_number_line-second-requires : goal.put_number_line-second-requires
unfolding car_of
put_number_line-second-requires c =
    let l = lines_parts (car_of c.args.c) in
    let h = c.requires.1 in
    let w = c.put_hex_line-first in
    let p = w.ensures.place in
    let k = w.auto.dst in
    rw c.count-count.ensures (omega arith)

pub overflow_add-from : goal.overflow_add-from
unfolding car_of
overflow_add-from c =
    let far : length c.args.c.car ≡ 32 = search rules in
    let l = part_length (car_of c.args.c) in
    let h = stands_within c.args.saved.now c.args.from (car_part (car_of c.args.c)) c.requires.0 (omega arith) in
    omega arith

pub put_phones-requires : goal.put_phones-requires
unfolding car_of
put_phones-requires c =
    let l = lines_parts (car_of c.args.c) in
    let h = c.requires.1 in
    let w = c.put_hex_line-first in
    let v = c.put_number_line-second in
    let p = w.ensures.place in
    let k = w.auto.dst in
    let n = c.count-count.ensures in
    let q = rw n at v.ensures.place in
    let j = v.auto.dst in
    let far : length c.args.c.car ≡ 32 = search rules in
    rw (n, (car_walk c.args.saved.now c.args.from (car_of c.args.c) far c.requires.0).0) (omega arith)

pub returns : goal.returns
unfolding car_of
returns c =
    let a = c.args in
    let far : length a.c.car ≡ 32 = search rules in
    let walk = car_walk a.saved.now a.from (car_of a.c) far c.requires.0 in
    let w = c.put_hex_line-first in
    let v = c.put_number_line-second in
    let u = c.put_phones in
    let n = c.count-count.ensures in
    let third = rw (n, walk.0, walk.1) at u.ensures in
    record {
      wrote = car_written a.dst.now a.at (car_of a.c) w.new.dst v.new.dst u.new.dst w.result v.result u.result.end w.ensures (rw n at v.ensures) third.wrote c.requires.1;
      read = third.read;
    }
