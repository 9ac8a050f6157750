use Rattle.frame_lines.proofs.Words.{rest_found, rest_end}
use Rattle.frame_lines.proofs.rest.Goals as goal

pub returns-then-end-s : goal.returns-then-end-s
returns-then-end-s c = rest_found _ _ c.find-end.ensures

pub returns-else-end-s : goal.returns-else-end-s
returns-else-end-s c = rest_end _ _ c.find-end.ensures c.if-end-s.false
