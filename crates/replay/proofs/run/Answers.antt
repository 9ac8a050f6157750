use Rattle.std.proofs.Common.{◌≡◌, length, refl, arith}
use Rattle.replay.proofs.run.Goals as goal

pub loop-init : goal.loop-init
loop-init g c = (refl, refl, refl)

pub turn-p-requires : goal.turn-p-requires
turn-p-requires g c = (omega arith, omega arith, omega arith)

pub loop-preserved : goal.loop-preserved
loop-preserved g c = (omega arith, omega arith, omega arith)
