use mathlib.Core.Path.{ap, ◌∙◌}
use Rattle.validation.specs.Calls.{unvalidated}
use Rattle.definition.specs.Gate.{tick_validation, ended, says}
use Rattle.outcomes.proofs.Laws.{by_session}
use Rattle.gate_sessions.proofs.tick_validation.Goals as goal

pub returns : goal.returns
unfolding ended says
returns c =
    let a = c.args in
    by_session a.g (tick_validation a.clock) _ _ _ (c.unvalidated-e.ensures ∙ ap unvalidated c.tick_validation-said.ensures) c.ended_on.ensures c.ended.ensures
