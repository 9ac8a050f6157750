use Rattle.frame_log.proofs.Reading.{end_found, end_open}
use Rattle.frame_log.proofs.line_length.Goals as goal

pub returns-then-end-s : goal.returns-then-end-s
returns-then-end-s c = end_found _ _ c.find-end.ensures c.if-end-s.true

pub returns-else-end-s : goal.returns-else-end-s
returns-else-end-s c = end_open _ _ c.find-end.ensures c.if-end-s.false
