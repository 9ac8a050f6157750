use Rattle.std.proofs.Common.{refl, ◌∙◌, ap, length, ne_eqb}
use Rattle.state.specs.declared.Outcome.{Outcome}
use Rattle.definition.specs.Gate.{lent_records}
use Rattle.gate_queue.proofs.Laws.{sends_by, sends_none}
use Rattle.gate_queue.proofs.send_can_frame.Goals as goal

pub returns-then-list-eq16 : goal.returns-then-list-eq16
returns-then-list-eq16 c =
    let a = c.args in
    sends_by a.g a.list.now a.frame a.class a.owner.now _ _ _ _ c.load.ensures c.send_sixteen-out.ensures refl c.store.ensures

pub returns-else-list-eq16 : goal.returns-else-list-eq16
returns-else-list-eq16 c =
    let a = c.args in
    ap (λ (o : Outcome). lent_records o a.list.now) c.send_none.ensures ∙ sends_none a.g a.list.now a.frame a.class a.owner.now (ne_eqb (length a.list.now) 16 c.if-list-eq16.false)
