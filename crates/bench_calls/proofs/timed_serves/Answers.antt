use Rattle.std.proofs.Common.{refl, ap, ◌∙◌, ap₂, arith}
use Rattle.frames.specs.declared.CanFrame.{CanFrame}
use Rattle.frames.specs.declared.TxClass.{TxClass}
use Rattle.bench_calls.specs.Held.{ready}
use Rattle.bench_calls.specs.Rounds.{Lending, served, passed, turns, sum_lent}
use Rattle.bench_calls.proofs.Laws.{sent_after, ran_after, turn_more, sum_lent_is}
use Rattle.bench_calls.proofs.timed_serves.Goals as goal

pub loop-i-init : goal.loop-i-init
unfolding turns
loop-i-init c = refl

pub loop-i-preserved : goal.loop-i-preserved
unfolding turns
loop-i-preserved c =
    let l = c.loop-i in
    let s = c.send_sixteen-s in
    let d = c.serve_sixteen-d in
    let sum = c.after-sum in
    let begun = sent_after l.sum l.i l.g l.all _ _ _ s.result s.ensures sum.ensures in
    let ran = ran_after sum.result l.i s.result.outcome.gate s.result.all d.result d.ensures c.after_run-sum.ensures in
    turn_more _ _ l.i l.invariant (ran ∙ ap (λ (x : Lending). served x l.i) begun)

pub returns : goal.returns
unfolding turns
returns c =
    let l = c.loop-i in
    let a = c.args in
    sum_lent_is _ _ _ _ l.i a.n l.invariant c.ready-g.ensures c.list-all.ensures (omega arith)
    ∙ ap₂ (λ (f : CanFrame) (k : TxClass). sum_lent (passed f k a.owner.now) (ready a.car.now a.bytes.now a.method.now) a.n) c.frame-frame.ensures c.class_of-class.ensures
