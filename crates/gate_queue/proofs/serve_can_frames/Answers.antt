use Rattle.std.proofs.Common.{refl, ◌∙◌, ap, length, ne_eqb}
use Rattle.state.specs.declared.Ran.{Ran}
use Rattle.definition.specs.Gate.{ran_given}
use Rattle.gate_queue.proofs.Laws.{serves_by, serves_none}
use Rattle.gate_queue.proofs.serve_can_frames.Goals as goal

pub returns-then-list-eq16 : goal.returns-then-list-eq16
returns-then-list-eq16 c =
    let a = c.args in
    serves_by a.g a.list.now a.turns a.clock _ _ _ _ c.load.ensures c.serve_sixteen-out.ensures refl c.store.ensures

pub returns-else-list-eq16 : goal.returns-else-list-eq16
returns-else-list-eq16 c =
    let a = c.args in
    ap (λ (o : Ran). ran_given o a.list.now) c.serve_none.ensures ∙ serves_none a.g a.list.now a.turns a.clock (ne_eqb (length a.list.now) 16 c.if-list-eq16.false)
