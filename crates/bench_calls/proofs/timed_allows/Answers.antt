use Rattle.std.proofs.Common.{refl, ◌∙◌, ap₂, arith}
use Rattle.frames.specs.declared.CanFrame.{CanFrame}
use Rattle.frames.specs.declared.TxClass.{TxClass}
use Rattle.bench_calls.specs.Held.{ready}
use Rattle.bench_calls.specs.Rounds.{turns, sum_of, allowed}
use Rattle.bench_calls.proofs.Laws.{run_after, turn_more, sum_is}
use Rattle.bench_calls.proofs.timed_allows.Goals as goal

pub loop-i-init : goal.loop-i-init
unfolding turns
loop-i-init c = refl

pub loop-i-preserved : goal.loop-i-preserved
loop-i-preserved c =
    let l = c.loop-i in
    let o = c.allow_can_tx-o in
    turn_more _ _ l.i l.invariant (run_after l.sum l.i o.result c.after-sum.ensures o.ensures)

pub returns : goal.returns
returns c =
    let l = c.loop-i in
    let a = c.args in
    sum_is _ _ _ l.i _ l.invariant c.ready-g.ensures (omega arith)
    ∙ ap₂ (λ (f : CanFrame) (k : TxClass). sum_of (allowed f k a.owner.now) (ready a.car.now a.bytes.now a.method.now) a.n) c.frame-frame.ensures c.class_of-class.ensures
