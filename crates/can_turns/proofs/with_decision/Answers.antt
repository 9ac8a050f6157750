use Rattle.std.proofs.Common.{arith}
use Rattle.can_turns.specs.Turns.{report_of}
use Rattle.can_turns.proofs.Laws.{reported}
use Rattle.can_turns.proofs.with_decision.Goals as goal

pub returns-then-next-lt16 : goal.returns-then-next-lt16
returns-then-next-lt16 c = λ ds e h. reported c.args.report _ ds e h

pub returns-else-next-lt16 : goal.returns-else-next-lt16
unfolding report_of
returns-else-next-lt16 c = λ ds e h. absurd (omega (arith, c.if-next-lt16.false, rw e at c.if-next-lt16.false, h))
