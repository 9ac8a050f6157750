use Rattle.definition.specs.Gate.{clear_paired_phones, listing, says}
use Rattle.outcomes.proofs.Laws.{by_lists}
use Rattle.gate_phones.proofs.clear_paired_phones.Goals as goal

pub returns : goal.returns
unfolding listing says
returns c =
    let a = c.args in
    by_lists a.g clear_paired_phones _ _ _ c.clear_paired_phones-x.ensures c.listed_on.ensures c.listed.ensures
