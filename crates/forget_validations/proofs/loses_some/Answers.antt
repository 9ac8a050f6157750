use Rattle.saved_record.specs.Store.{car_of}
use Rattle.validations.specs.Store.{loses_some}
use Rattle.forget_validations.proofs.Laws.{counted}
use Rattle.forget_validations.proofs.loses_some.Goals as goal

pub returns : goal.returns
unfolding loses_some car_of
returns c = rw (← counted _ _ _ c.retain_in.ensures c.count.ensures, ← c.count-2.ensures)
