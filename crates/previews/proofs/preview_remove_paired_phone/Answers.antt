use Rattle.state.specs.View.{view}
use Rattle.answers.specs.Query.{preview_remove_paired_phone, answer_to}
use Rattle.definition.proofs.Asked.{by_query}
use Rattle.previews.proofs.preview_remove_paired_phone.Goals as goal

pub returns : goal.returns
unfolding answer_to view
returns c = let a = c.args in by_query a.g (preview_remove_paired_phone _) _ (c.foreseen.ensures _ c.remove_paired_phone.ensures)
