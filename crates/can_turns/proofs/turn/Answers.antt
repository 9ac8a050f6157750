use Rattle.state.specs.View.{lists_in}
use Rattle.can_turns.proofs.Laws.{turned}
use Rattle.can_turns.proofs.turn.Goals as goal

pub returns : goal.returns
returns c =
    let a = c.args in
    turned (lists_in a.phones) a.clock a.s _ _ _ _ c.decide_can_tx-v.result _ _ _ _ _ c.next_place-place.ensures c.record_at.ensures c.under_bus-w.ensures c.owner_validated-validated.ensures c.decide_can_tx-v.ensures c.is_yes.ensures c.core_by.ensures c.with_decision.ensures c.closed_up.ensures c.saturating_sub.ensures
