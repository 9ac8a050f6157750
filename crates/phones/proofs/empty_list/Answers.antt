-- Both sides are the same list of zeros.
use mathlib.Core.Path.{refl}
use Rattle.arrays.specs.Arrays.{padded}
use Rattle.phones.specs.Phones.{list_of}
use Rattle.phones.specs.Ids.{joined}
use Rattle.phones.proofs.empty_list.Goals as goal

pub returns : goal.returns
unfolding list_of padded joined
returns c = refl
