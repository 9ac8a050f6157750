use Rattle.replay_lines.specs.Fields.{put_fields}
use Rattle.replay_answers.specs.Query.{told}
use Rattle.replay_frames.specs.Frames.{report}
use Rattle.replay_frames.proofs.put_report.Goals as goal

pub returns-then-is_done : goal.returns-then-is_done
unfolding put_fields report told
returns-then-is_done c = rw (c.put_decided_list.ensures, c.put_told-k.ensures, ← c.is_done.ensures, c.if-is_done.true)

pub returns-else-is_done : goal.returns-else-is_done
unfolding put_fields report told
returns-else-is_done c = rw (c.put_told-k.ensures, ← c.is_done.ensures, c.if-is_done.false)
