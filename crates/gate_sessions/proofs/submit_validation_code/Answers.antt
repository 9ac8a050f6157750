use Rattle.state.specs.View.{view}
use Rattle.definition.specs.Gate.{says, step}
use Rattle.outcomes.proofs.Laws.{by_ended}
use Rattle.gate_sessions.proofs.submit_validation_code.Goals as goal

pub returns : goal.returns
unfolding step says view
returns c = by_ended c.args.g _ _ _ c.submitted.ensures c.ended.ensures
