use Rattle.std.proofs.Common.{refl, arith}
use Rattle.bench_calls.specs.Rounds.{turns}
use Rattle.bench_calls.proofs.Laws.{run_after, turn_more, sum_is}
use Rattle.bench_calls.proofs.timed_starts.Goals as goal

pub loop-i-init : goal.loop-i-init
unfolding turns
loop-i-init c = refl

pub loop-i-preserved : goal.loop-i-preserved
loop-i-preserved c =
    let l = c.loop-i in
    let o = c.start_validation-o in
    turn_more _ _ l.i l.invariant (run_after l.sum l.i o.result c.after-sum.ensures o.ensures)

pub returns : goal.returns
returns c =
    let l = c.loop-i in
    sum_is _ _ _ l.i _ l.invariant c.ready-g.ensures (omega arith)
