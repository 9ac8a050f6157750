use Rattle.definition.specs.Gate.{add_paired_phone, listing, says}
use Rattle.outcomes.proofs.Laws.{by_lists}
use Rattle.gate_phones.proofs.add_paired_phone.Goals as goal

pub returns : goal.returns
unfolding listing says
returns c =
    let a = c.args in
    by_lists a.g (add_paired_phone a.id.now) _ _ _ c.add_paired_phone-x.ensures c.listed_on.ensures c.listed.ensures
