use Rattle.state.specs.View.{view}
use Rattle.answers.specs.Query.{is_car_identity_confirmed, answer_to}
use Rattle.definition.proofs.Asked.{by_query}
use Rattle.queries.proofs.is_car_identity_confirmed.Goals as goal

pub returns : goal.returns
unfolding answer_to view
returns c = let a = c.args in by_query a.g is_car_identity_confirmed _ (rw c.answer_yes_no.ensures)
