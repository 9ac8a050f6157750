use native.Mathlib.Omega.{arith}
use mathlib.Core.Path.{refl, sym}
use lib.Seq.{set_out}
use Rattle.waiting_list.specs.Queue.{with_one}
use Rattle.waiting_list.proofs.put_record.Goals as goal

pub returns-then-count-lt16 : goal.returns-then-count-lt16
unfolding with_one
returns-then-count-lt16 c = refl

pub returns-else-count-lt16 : goal.returns-else-count-lt16
unfolding with_one
returns-else-count-lt16 c = sym (set_out _ _ _ (omega (arith, c.well_formed.0.1.0.1)))
