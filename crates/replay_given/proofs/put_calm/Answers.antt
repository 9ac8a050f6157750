use Rattle.replay_signals.proofs.Room.{no_signals_in}
use Rattle.replay_given.proofs.put_calm.Goals as goal

pub returns : goal.returns
returns c = (rw (← c.no_signals.ensures, ← c.put_signals-k.ensures), no_signals_in)
