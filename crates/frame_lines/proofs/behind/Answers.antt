use Rattle.frame_lines.proofs.Words.{behind_part}
use Rattle.frame_lines.proofs.behind.Goals as goal

pub returns : goal.returns
returns c = behind_part _ _ _ _ c.find-end.ensures c.min.ensures
