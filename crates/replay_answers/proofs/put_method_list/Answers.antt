use Rattle.std.proofs.Common.{◌≡◌, refl, add-one, arith}
use Rattle.replay_answers.specs.Query.{methods_to}
use Rattle.replay_answers.proofs.put_method_list.Goals as goal

pub loop-i-init : goal.loop-i-init
unfolding methods_to
loop-i-init c = refl

pub loop-i-preserved : goal.loop-i-preserved
unfolding methods_to
loop-i-preserved c = rw (c.put_method_at-k.ensures, c.loop-i.invariant, add-one)

pub returns : goal.returns
returns c =
    let all : c.loop-i.i ≡ 8 = omega arith in
    rw (c.loop-i.invariant, all)
