use mathlib.Core.Path.{ap, ◌∙◌}
use Rattle.validation.specs.Calls.{unvalidated}
use Rattle.definition.specs.Gate.{cancel_validation, ended, says}
use Rattle.outcomes.proofs.Laws.{by_session}
use Rattle.gate_sessions.proofs.cancel_validation.Goals as goal

pub returns : goal.returns
unfolding ended says
returns c =
    let a = c.args in
    by_session a.g (cancel_validation a.phone.now a.clock) _ _ _ (c.unvalidated-e.ensures ∙ ap unvalidated c.cancel_validation-said.ensures) c.ended_on.ensures c.ended.ensures
