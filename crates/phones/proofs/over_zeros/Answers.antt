use Rattle.phones.proofs.Laws.{over_zeros}
use Rattle.phones.proofs.over_zeros.Goals as goal

pub returns : goal.returns
returns g c = rw c.copy_from_slice.ensures.after (over_zeros g.row.N c.args.s.now)
