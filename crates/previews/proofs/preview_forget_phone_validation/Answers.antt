use Rattle.state.specs.View.{view}
use Rattle.answers.specs.Query.{preview_forget_phone_validation, answer_to}
use Rattle.definition.proofs.Asked.{by_query}
use Rattle.previews.proofs.preview_forget_phone_validation.Goals as goal

pub returns : goal.returns
unfolding answer_to view
returns c = let a = c.args in by_query a.g (preview_forget_phone_validation _) _ (c.foreseen.ensures _ c.forget_phone_validation.ensures)
