use Rattle.definition.specs.Gate.{take_phone_validations_save, saving, bytes}
use Rattle.outcomes.proofs.Laws.{lent_as_lem, by_save}
use Rattle.gate_phones.proofs.take_phone_validations_save.Goals as goal

pub returns : goal.returns
unfolding saving
returns c =
    let a = c.args in
    let t = c.taken.ensures in
    rw (t.1, lent_as_lem bytes a.out.now _) (by_save a.g (take_phone_validations_save a.out.now) _ _ t.0 c.kept.ensures)
