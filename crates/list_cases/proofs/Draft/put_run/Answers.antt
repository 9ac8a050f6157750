use Rattle.std.proofs.Common.{◌≡◌, ◌+◌, ◌-◌, sym, ◌∙◌, arith}
use Rattle.list_cases.proofs.Laws.{run_turn, run_end}
use Rattle.list_cases.proofs.Draft.put_run.Goals as goal

pub loop-preserved : goal.loop-preserved
loop-preserved c =
    let l = c.loop in
    let e : c.args.n - (l.counter + 1) ≡ c.args.n - l.counter - 1 = omega arith in
    rw (e, c.put_byte.ensures) (l.invariant ∙ run_turn l.b c.args.step (c.args.n - l.counter) l.self (omega arith))

pub returns : goal.returns
returns c = sym (c.loop.invariant ∙ run_end _ _ _ _ (omega arith))
