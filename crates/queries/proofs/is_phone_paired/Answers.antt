use Rattle.state.specs.View.{view}
use Rattle.answers.specs.Query.{is_phone_paired, answer_to}
use Rattle.definition.proofs.Asked.{by_query}
use Rattle.queries.proofs.is_phone_paired.Goals as goal

pub returns : goal.returns
unfolding answer_to view
returns c = let a = c.args in by_query a.g (is_phone_paired a.id.now) _ (rw (c.answer_yes_no.ensures, c.is_paired.ensures))
