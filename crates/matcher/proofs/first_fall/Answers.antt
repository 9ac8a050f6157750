use Rattle.std.proofs.Common.{refl}
use Rattle.matcher.specs.Match.{first_fall}
use Rattle.matcher.proofs.Steps.{fall_found, fall_again, fall_end}
use Rattle.matcher.proofs.first_fall.Goals as goal

pub loop-i-init : goal.loop-i-init
unfolding first_fall
loop-i-init c = refl

pub returns-then-t-last : goal.returns-then-t-last
returns-then-t-last c = fall_found _ _ _ c.loop-i-test.true c.loop-i.invariant c.if-t-last.true

pub loop-i-preserved : goal.loop-i-preserved
loop-i-preserved c = fall_again _ _ _ c.loop-i-test.true c.loop-i.invariant c.if-t-last.false

pub returns : goal.returns
returns c = fall_end _ _ _ c.loop-i-test.false c.loop-i.invariant
