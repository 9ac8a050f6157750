use Rattle.definition.specs.Gate.{open_phone_validations_save, saving}
use Rattle.outcomes.proofs.Laws.{by_save}
use Rattle.gate_phones.proofs.open_phone_validations_save.Goals as goal

pub returns : goal.returns
unfolding saving
returns c = by_save c.args.g open_phone_validations_save _ _ c.opened.ensures c.kept.ensures
