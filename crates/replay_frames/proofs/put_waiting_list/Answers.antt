use Rattle.std.proofs.Common.{◌≡◌, refl, add-one, arith}
use Rattle.replay_frames.specs.Frames.{waiting_to}
use Rattle.replay_frames.proofs.put_waiting_list.Goals as goal

pub loop-i-init : goal.loop-i-init
unfolding waiting_to
loop-i-init c = refl

pub loop-i-preserved : goal.loop-i-preserved
unfolding waiting_to
loop-i-preserved c = rw (c.put_waiting_at-k.ensures, c.loop-i.invariant, add-one)

pub returns : goal.returns
returns c =
    let all : c.loop-i.i ≡ 17 = omega arith in
    rw (c.loop-i.invariant, all)
