use Rattle.replay_lines.specs.Fields.{put_fields}
use Rattle.replay_state.specs.Whole.{gate}
use Rattle.replay_state.proofs.put_gate.Goals as goal

pub returns : goal.returns
unfolding gate put_fields
returns c = rw (c.put_queue.ensures, c.put_save-k.ensures, c.put_probe-k.ensures, c.put_fields-k.ensures, c.put_session_or_none-k.ensures, c.put_front-k.ensures)
