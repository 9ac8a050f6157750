use mathlib.Core.Bool.{or-true}
use mathlib.Core.List.{[]}
use Rattle.can_queue.proofs.Laws.{sending_looked}
use Rattle.can_queue.proofs.refused.Goals as goal

pub returns-in-Ok : goal.returns-in-Ok
returns-in-Ok c =
    let a = c.args in
    rw (sending_looked a.q [] a.frame a.class a.owner.now, ← c.in-Ok.ensures, or-true)

pub returns-in-Err : goal.returns-in-Err
returns-in-Err c =
    let a = c.args in
    rw (sending_looked a.q [] a.frame a.class a.owner.now, ← c.in-Err.ensures)
