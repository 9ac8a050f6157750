use Rattle.save.specs.Save.{no_save}
use Rattle.save.proofs.no_save.Goals as goal

pub returns : goal.returns
unfolding no_save
returns c = rw c.no_record.ensures
