use Rattle.std.proofs.Common.{arith}
use Rattle.decimal.specs.Decimal.{decimal_of}
use Rattle.car_lines.proofs.Laws.{line_length_lem, wrote_line}
use Rattle.car_lines.proofs.put_number_line.Goals as goal

pub put_text-from-requires : goal.put_text-from-requires
put_text-from-requires c = let a = c.args in omega (arith, line_length_lem a.name.now (decimal_of a.n))

pub put_decimal-end-requires : goal.put_decimal-end-requires
put_decimal-end-requires c = let a = c.args in omega (arith, line_length_lem a.name.now (decimal_of a.n))

pub put_text-requires : goal.put_text-requires
put_text-requires c = let a = c.args in omega (arith, line_length_lem a.name.now (decimal_of a.n))

pub returns : goal.returns
returns c =
    let a = c.args in
    let w = c.put_text-from in
    let v = c.put_decimal-end in
    let u = c.put_text in
    wrote_line a.dst.now a.at a.name.now (decimal_of a.n) w.new.dst w.result v.new.dst v.result u.new.dst u.result
    w.ensures (record { bytes = v.ensures.1; place = v.ensures.0 }) u.ensures (omega arith)
