use Rattle.save.specs.Save.{opening}
use Rattle.save.proofs.open_phone_validations_save.Goals as goal

pub returns : goal.returns
unfolding opening
returns c = rw c.record_for.ensures
