use Rattle.definition.specs.Gate.{prune_phone_validations, listing, says}
use Rattle.outcomes.proofs.Laws.{by_lists}
use Rattle.gate_phones.proofs.prune_phone_validations.Goals as goal

pub returns : goal.returns
unfolding listing says
returns c =
    let a = c.args in
    by_lists a.g prune_phone_validations _ _ _ c.prune_phone_validations-x.ensures c.listed_on.ensures c.listed.ensures
