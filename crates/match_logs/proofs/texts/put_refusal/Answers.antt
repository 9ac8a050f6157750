use Rattle.std.proofs.Common.{arith}
use Rattle.frame_lines.specs.Walk.{lay}
use Rattle.match_logs.proofs.texts.put_refusal.Goals as goal

pub returns-in-BadLine : goal.returns-in-BadLine
unfolding lay
returns-in-BadLine c = (rw (c.in-BadLine.is, ← c.put_fault.ensures), rw c.in-BadLine.is (omega arith))

pub returns-in-TimeBack : goal.returns-in-TimeBack
unfolding lay
returns-in-TimeBack c = (rw (c.in-TimeBack.is, ← c.put_fault-in-TimeBack.ensures), rw c.in-TimeBack.is (omega arith))
