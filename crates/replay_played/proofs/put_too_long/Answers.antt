use Rattle.replay_played.specs.Played.{too_long}
use Rattle.replay_played.proofs.put_too_long.Goals as goal

pub returns : goal.returns
unfolding too_long
returns c = rw (c.put_text.ensures, c.put_item-k.ensures)
