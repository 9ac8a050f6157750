use mathlib.Core.Path.{ap, ◌∙◌}
use mathlib.Core.Bool.{Bool}
use Rattle.validation.specs.Calls.{complete}
use Rattle.definition.specs.Gate.{complete_validation_action, ended, says}
use Rattle.outcomes.proofs.Laws.{by_session}
use Rattle.gate_sessions.proofs.complete_validation_action_at.Goals as goal

pub returns : goal.returns
unfolding ended says
returns c =
    let a = c.args in
    by_session a.g (complete_validation_action a.number a.clock) _ _ _ (c.complete_validation_action_at-e.ensures ∙ ap (λ (full : Bool). complete a.g.core a.number a.clock full) c.full_for-full.ensures) c.ended_on.ensures c.ended.ensures
