-- By the list that was tested; where there is no car, its phones are none.
use Rattle.std.proofs.Common.{inl, inr, rules}
use Rattle.validations.specs.Store.{is_full}
use Rattle.validations.proofs.is_full.Goals as goal

pub returns : goal.returns
unfolding is_full
returns c = elim c.list_passes.ensures [ inl w ↦ rw (← w.1) (search rules) | inr w ↦ rw (w.1, w.0) ]
