use Rattle.replay_host.proofs.Laws.{owner_made}
use Rattle.replay_host.proofs.owner_of.Goals as goal

pub returns : goal.returns
returns c = rw c.copy_from_slice.ensures.after (owner_made c.args.s.now _ c.min-kept.ensures)
