use Rattle.replay_signals.specs.Signals.{signals}
use Rattle.replay_signals.proofs.put_signals.Goals as goal

pub returns : goal.returns
unfolding signals
returns c = rw (c.put_listed.ensures, ← c.put_text-from.ensures)
