use Rattle.replay_played.specs.Played.{state_line}
use Rattle.std.proofs.Common.{rules}
use Rattle.replay_player.proofs.put_state.Goals as goal

pub returns : goal.returns
unfolding state_line
returns c = rw (← c.put_begin-k.ensures, ← c.put_gate-k.ensures, ← c.put_text.ensures)
