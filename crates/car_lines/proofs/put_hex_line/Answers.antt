use Rattle.std.proofs.Common.{◌+◌, ◌*◌, length, arith}
use Rattle.hexadecimal.specs.Hex.{hex_of}
use Rattle.hexadecimal.proofs.Laws.{hex_length}
use Rattle.car_lines.proofs.Laws.{line_length_lem, wrote_line}
use Rattle.car_lines.proofs.put_hex_line.Goals as goal

pub put_text-from-requires : goal.put_text-from-requires
put_text-from-requires c = let a = c.args in omega (arith, line_length_lem a.name.now (hex_of a.bytes.now), hex_length a.bytes.now)

pub put_hex-requires : goal.put_hex-requires
put_hex-requires c = let a = c.args in omega (arith, line_length_lem a.name.now (hex_of a.bytes.now), hex_length a.bytes.now)

pub overflow_add-from : goal.overflow_add-from
overflow_add-from c = let a = c.args in omega (arith, line_length_lem a.name.now (hex_of a.bytes.now), hex_length a.bytes.now)

pub put_text-requires : goal.put_text-requires
put_text-requires c = let a = c.args in omega (arith, line_length_lem a.name.now (hex_of a.bytes.now), hex_length a.bytes.now)

pub returns : goal.returns
returns c =
    let a = c.args in
    let name = a.name.now in
    let value = hex_of a.bytes.now in
    let w = c.put_text-from in
    let v = c.put_hex in
    let u = c.put_text in
    let h = hex_length a.bytes.now in
    let end = w.result + 2 * length a.bytes.now in
    wrote_line a.dst.now a.at name value w.new.dst w.result v.new.dst end u.new.dst u.result
    w.ensures (record { bytes = v.ensures; place = omega arith }) u.ensures (omega arith)
