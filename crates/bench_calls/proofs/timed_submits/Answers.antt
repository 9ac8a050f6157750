use Rattle.std.proofs.Common.{refl, ap, ◌∙◌, arith}
use Rattle.bench_calls.specs.declared.held.Run.{Run}
use Rattle.bench_calls.specs.Rounds.{turns, submitted}
use Rattle.bench_calls.proofs.Laws.{run_after, turn_more, sum_is}
use Rattle.bench_calls.proofs.timed_submits.Goals as goal

pub loop-i-init : goal.loop-i-init
unfolding turns
loop-i-init c = refl

pub loop-i-preserved : goal.loop-i-preserved
loop-i-preserved c =
    let l = c.loop-i in
    let a = c.args in
    let o = c.start_validation-o in
    let p = c.submit_validation_code-p in
    let begun = run_after l.sum l.i o.result c.after-sum.ensures o.ensures in
    let judged = run_after c.after-sum.result l.i p.result c.after-sum-in-loop-i.ensures p.ensures in
    let both = judged ∙ ap (λ (x : Run). submitted a.phone.now a.typed.now x l.i) begun in
    turn_more _ _ l.i l.invariant both

pub returns : goal.returns
returns c =
    let l = c.loop-i in
    sum_is _ _ _ l.i _ l.invariant c.ready-g.ensures (omega arith)
