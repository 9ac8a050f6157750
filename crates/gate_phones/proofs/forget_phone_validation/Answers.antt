use Rattle.definition.specs.Gate.{forget_phone_validation, listing, says}
use Rattle.outcomes.proofs.Laws.{by_lists}
use Rattle.gate_phones.proofs.forget_phone_validation.Goals as goal

pub returns : goal.returns
unfolding listing says
returns c =
    let a = c.args in
    by_lists a.g (forget_phone_validation a.id.now) _ _ _ c.forget_phone_validation-x.ensures c.listed_on.ensures c.listed.ensures
