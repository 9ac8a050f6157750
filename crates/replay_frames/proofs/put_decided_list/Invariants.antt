use Rattle.std.proofs.Common.{◌≡◌}
use Rattle.replay_page.specs.Page.{page}
use Rattle.replay_frames.specs.Frames.{decided_to}
use Rattle.replay_frames.proofs.put_decided_list.Given as goal

abbrev pub invariant-loop-i : goal.invariant-loop-i
invariant-loop-i l = page l.out l.k ≡ decided_to l.r l.i (page l.initial.out l.at)
