use Rattle.std.proofs.Common.{◌≡◌, length, refl, rules, arith}
use lib.ListN.{length-set}
use Rattle.arrays.specs.Arrays.{padded}
use Rattle.arrays.proofs.Laws.{long_map}
use Rattle.answers.specs.Answers.{can_start_from}
use Rattle.long_answers.proofs.Laws.{start_step, start_end}
use Rattle.long_answers.proofs.can_start_each.Goals as goal

pub loop-i-init : goal.loop-i-init
unfolding padded can_start_from
loop-i-init c =
    let far : length c.args.list ≡ 8 = search (rules, long_map) in
    (far, refl, refl)

pub loop-i-preserved : goal.loop-i-preserved
loop-i-preserved c =
    let loop = c.loop-i in
    let args = c.args in
    (loop.invariant.0, simp length-set loop.invariant.1, start_step args.core loop.i loop.out args.list loop.invariant.0 loop.invariant.2 c.can_start.result c.can_start.ensures (omega arith))

pub returns : goal.returns
returns c =
    let loop = c.loop-i in
    let args = c.args in
    start_end args.core loop.i loop.out args.list loop.invariant.0 loop.invariant.2 args.count (omega arith)
