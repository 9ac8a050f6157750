use Rattle.std.proofs.Common.{◌≡◌, refl, add-one, arith}
use Rattle.replay_frames.specs.Frames.{decided_to}
use Rattle.replay_frames.proofs.put_decided_list.Goals as goal

pub loop-i-init : goal.loop-i-init
unfolding decided_to
loop-i-init c = refl

pub loop-i-preserved : goal.loop-i-preserved
unfolding decided_to
loop-i-preserved c = rw (c.put_decided_at-k.ensures, c.loop-i.invariant, add-one)

pub returns : goal.returns
returns c =
    let all : c.loop-i.i ≡ 16 = omega arith in
    rw (c.loop-i.invariant, all)
