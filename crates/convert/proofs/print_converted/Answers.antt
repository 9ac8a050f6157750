-- A record that is laid down fits, so its first bytes are there to print.
use Rattle.std.proofs.Common.{rules, sym, replicate, length-take-le}
use Rattle.converter.proofs.Laws.{given_fits}
use Rattle.convert.proofs.print_converted.Goals as goal

pub slice_bounds-out-end : goal.slice_bounds-out-end
slice_bounds-out-end g c =
    let r = c.convert_phone_validations in
    given_fits c.in-Ok.n r.new.out c.args.saved.now c.args.two (replicate 4358 0) (rw (← c.in-Ok.is) r.ensures) (search rules)

pub slice_bounds-print-end : goal.slice_bounds-print-end
slice_bounds-print-end g c =
    let r = c.convert_phone_validations in
    sym (length-take-le c.in-Ok.n r.new.out (given_fits c.in-Ok.n r.new.out c.args.saved.now c.args.two (replicate 4358 0) (rw (← c.in-Ok.is) r.ensures) (search rules)))
