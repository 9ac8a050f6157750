use Rattle.std.proofs.Common.{refl, arith}
use Rattle.std.proofs.Math.ListN.{length-set}
use Rattle.arrays.specs.Arrays.{padded}
use Rattle.text_cases.specs.Cases.{byte_at, bytes_of}
use Rattle.text_cases.proofs.Laws.{pairs_fit, bytes_turn}
use Rattle.text_cases.proofs.bytes_of.Goals as goal

pub loop-i-init : goal.loop-i-init
unfolding padded bytes_of
loop-i-init c = (refl, refl)

pub loop-i-preserved : goal.loop-i-preserved
unfolding byte_at
loop-i-preserved c =
    let l = c.loop-i in (
      simp length-set l.invariant.0,
      rw (c.nibble.ensures, c.nibble-in-loop-i.ensures, l.invariant.1) (bytes_turn c.args.line.now l.i (omega (arith, c.pairs-i-end.ensures, pairs_fit))),
    )
