use Rattle.std.proofs.Common.{refl}
use Rattle.definition.specs.Gate.{allow_can_tx}
use Rattle.outcomes.proofs.Laws.{by_core}
use Rattle.gate_frames.proofs.allow_can_tx.Goals as goal

pub returns : goal.returns
returns c =
    let a = c.args in
    by_core a.g (allow_can_tx a.bus a.frame a.class a.owner.now a.clock) _ _ _ refl c.allowed.ensures c.settled.ensures
