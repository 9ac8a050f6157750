use Rattle.replay_played.specs.Played.{ended}
use Rattle.std.proofs.Common.{rules}
use Rattle.replay_player.proofs.play_call.Goals as goal

pub run-r-requires : goal.run-r-requires
unfolding ended
run-r-requires c = c.requires

pub returns : goal.returns
unfolding ended
returns c = let r = c.run-r.ensures in (rw (← c.put_begin-k.ensures, ← r.0, ← c.put_text.ensures), r.1)
