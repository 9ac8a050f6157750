use Rattle.replay_played.specs.Played.{begun}
use Rattle.replay_played.proofs.put_begin.Goals as goal

pub returns : goal.returns
unfolding begun
returns c = rw (← c.put_item-k.ensures, ← c.put_text-k.ensures, ← c.put_text.ensures)
