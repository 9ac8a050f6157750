use Rattle.std.proofs.Common.{◌≡◌, ◌+◌, ◌-◌, sym, arith}
use Rattle.std.proofs.Math.Nat.{sub-zero}
use Rattle.reader.proofs.Laws.{field_inside}
use Rattle.car_lines.proofs.Walk.{walking_first, walking_fits, walking_on, walking_done, ids_none, ids_err, place_none, place_err}
use Rattle.car_lines.proofs.put_phones.Goals as goal

pub loop-init : goal.loop-init
loop-init c = let a = c.args in rw sub-zero (walking_first a.dst.now a.at a.saved.now a.from a.count (omega arith))

pub overflow_add-id : goal.overflow_add-id
overflow_add-id c = omega (arith, field_inside c.args.saved.now c.loop.places.next c.in-Ok.field-0 (sym c.in-Ok.ensures))

pub slice_bounds-id-end : goal.slice_bounds-id-end
slice_bounds-id-end c = omega (arith, field_inside c.args.saved.now c.loop.places.next c.in-Ok.field-0 (sym c.in-Ok.ensures))

pub put_hex_line-end-requires : goal.put_hex_line-end-requires
put_hex_line-end-requires c =
    let a = c.args in
    let l = c.loop in
    walking_fits a.dst.now a.at a.saved.now a.from a.count l.dst l.places (a.count - l.counter) l.invariant c.in-Ok.field-0 (omega arith) c.in-Ok.ensures

pub loop-preserved : goal.loop-preserved
loop-preserved c =
    let a = c.args in
    let l = c.loop in
    let w = c.put_hex_line-end in
    let e : a.count - (l.counter + 1) ≡ a.count - l.counter - 1 = omega arith in
    rw e
    (walking_on a.dst.now a.at a.saved.now a.from a.count l.dst l.places (a.count - l.counter) l.invariant c.in-Ok.field-0 (omega arith) c.in-Ok.ensures w.new.dst w.result w.ensures w.auto.dst)

pub returns-after-loop : goal.returns-after-loop
returns-after-loop c =
    let a = c.args in
    let l = c.loop in
    walking_done a.dst.now a.at a.saved.now a.from a.count l.dst l.places (a.count - l.counter) l.invariant
    (ids_none (a.count - l.counter) a.saved.now l.places.next (omega arith)) (place_none (a.count - l.counter) a.saved.now l.places.next (omega arith))

pub returns-in_default : goal.returns-in_default
returns-in_default c =
    let a = c.args in
    let l = c.loop in
    let r = c.in_default in
    walking_done a.dst.now a.at a.saved.now a.from a.count l.dst l.places (a.count - l.counter) l.invariant
    (ids_err (a.count - l.counter) a.saved.now l.places.next r.field-0 r.ensures) (place_err (a.count - l.counter) a.saved.now l.places.next r.field-0 r.ensures)
