use Rattle.state.specs.View.{view}
use Rattle.answers.specs.Query.{car_has_validated_phone, answer_to}
use Rattle.definition.proofs.Asked.{by_query}
use Rattle.queries.proofs.car_has_validated_phone.Goals as goal

pub returns : goal.returns
unfolding answer_to view
returns c = let a = c.args in by_query a.g car_has_validated_phone _ (rw (c.answer_yes_no.ensures, c.car_has_validated_phone.ensures))
