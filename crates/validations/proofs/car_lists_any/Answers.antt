-- By the list that was tested; where there is no car, its phones are none.
use Rattle.std.proofs.Common.{inl, inr, rules}
use Rattle.phones.specs.Ids.{any_in, some_of}
use Rattle.validations.proofs.car_lists_any.Goals as goal

pub returns : goal.returns
unfolding any_in some_of
returns c = elim c.list_passes.ensures [ inl w ↦ rw (← w.1) (search rules) | inr w ↦ rw (w.1, w.0) ]
