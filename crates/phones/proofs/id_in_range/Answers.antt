use Rattle.phones.specs.Phones.{id_in_range, too_long}
use Rattle.phones.proofs.Search.{at_most_is}
use Rattle.phones.proofs.id_in_range.Goals as goal

pub returns : goal.returns
unfolding id_in_range too_long
returns c = at_most_is c.args.p.len 32
