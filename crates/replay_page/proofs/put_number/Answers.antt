use Rattle.std.proofs.Common.{arith, length-take}
use Rattle.std.proofs.lemmas.List.{length-replicate}
use Rattle.decimal.specs.Decimal.{decimal_of}
use Rattle.replay_page.proofs.Laws.{digits_fit, front}
use Rattle.replay_page.proofs.put_number.Goals as goal

pub put_decimal-k-requires : goal.put_decimal-k-requires
put_decimal-k-requires c = let h = digits_fit c.args.n (omega arith) in rw length-replicate (omega arith)

pub slice_bounds-digits-end : goal.slice_bounds-digits-end
slice_bounds-digits-end c = let h = digits_fit c.args.n (omega arith) in omega arith

pub slice_bounds-put_text-end : goal.slice_bounds-put_text-end
slice_bounds-put_text-end c = let h = digits_fit c.args.n (omega arith) in rw length-take (omega arith)

pub returns : goal.returns
returns c =
    let n = c.args.n in
    let d = c.put_decimal-k in
    rw (← front 20 d.new.dst d.result (decimal_of n) (digits_fit n (omega arith)) d.ensures.0 d.ensures.1) c.put_text.ensures
