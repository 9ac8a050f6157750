use Rattle.std.proofs.Common.{refl}
use Rattle.arrays.specs.Arrays.{padded}
use Rattle.can_turns.specs.Turns.{report_of}
use Rattle.can_turns.proofs.no_report.Goals as goal

pub returns : goal.returns
unfolding report_of padded
returns c = refl
