use Rattle.phones.specs.Phones.{id_of}
use Rattle.phones.proofs.id_of.Goals as goal

pub returns : goal.returns
unfolding id_of
returns c = rw c.over_zeros.ensures
