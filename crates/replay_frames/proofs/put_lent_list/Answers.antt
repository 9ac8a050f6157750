use Rattle.replay_lines.specs.Fields.{put_fields}
use Rattle.replay_frames.specs.Frames.{lent_list}
use Rattle.replay_frames.proofs.put_lent_list.Goals as goal

pub returns : goal.returns
unfolding lent_list put_fields
returns c = rw (c.put_waiting_list.ensures, c.put_fields-k.ensures, c.put_answer-k.ensures)
