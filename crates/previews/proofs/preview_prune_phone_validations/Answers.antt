use Rattle.state.specs.View.{view}
use Rattle.answers.specs.Query.{preview_prune_phone_validations, answer_to}
use Rattle.definition.proofs.Asked.{by_query}
use Rattle.previews.proofs.preview_prune_phone_validations.Goals as goal

pub returns : goal.returns
unfolding answer_to view
returns c = let a = c.args in by_query a.g preview_prune_phone_validations _ (c.foreseen.ensures _ c.prune_phone_validations.ensures)
