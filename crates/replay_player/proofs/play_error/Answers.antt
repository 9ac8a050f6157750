use Rattle.replay_played.specs.Played.{failed, ended}
use Rattle.std.proofs.Common.{rules}
use Rattle.replay_player.proofs.play_error.Goals as goal

pub returns : goal.returns
unfolding failed ended
returns c = rw (c.not_called.ensures, ← c.put_item-k.ensures, ← c.put_error-k.ensures, ← c.put_text-k.ensures)
