use mathlib.Core.Path.{◌≡◌}
use lib.ListN.{length-take}
use native.Mathlib.Omega.{arith}
use Rattle.word_table.specs.Words.{name_of, before}
use Rattle.word_table.proofs.Laws.{end_inside}
use Rattle.word_table.proofs.is_named.Goals as goal

pub slice_bounds-same_bytes-end : goal.slice_bounds-same_bytes-end
unfolding name_of
slice_bounds-same_bytes-end c =
    let e = c.end_of-end in
    let h = end_inside 32 c.args.row.now 0 e.result (omega arith) e.ensures in
    rw length-take (omega arith)

pub returns : goal.returns
unfolding name_of
returns c =
    let row = c.args.row.now in
    let e : c.end_of-end.result ≡ before 32 row = omega (arith, c.end_of-end.ensures) in
    rw (← e) c.same_bytes.ensures
