use Rattle.std.proofs.Common.{refl}
use Rattle.definition.specs.Gate.{restore_phone_validations, listing}
use Rattle.outcomes.proofs.Laws.{by_lists}
use Rattle.gate_phones.proofs.restore_phone_validations.Goals as goal

pub returns : goal.returns
unfolding listing
returns c =
    let a = c.args in
    by_lists a.g (restore_phone_validations a.bytes.now) _ _ _ refl c.restored.ensures c.listed.ensures
