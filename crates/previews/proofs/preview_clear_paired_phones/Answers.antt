use Rattle.state.specs.View.{view}
use Rattle.answers.specs.Query.{preview_clear_paired_phones, answer_to}
use Rattle.definition.proofs.Asked.{by_query}
use Rattle.previews.proofs.preview_clear_paired_phones.Goals as goal

pub returns : goal.returns
unfolding answer_to view
returns c = let a = c.args in by_query a.g preview_clear_paired_phones _ (c.foreseen.ensures _ c.clear_paired_phones.ensures)
