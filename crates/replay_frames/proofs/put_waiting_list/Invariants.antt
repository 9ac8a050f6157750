use Rattle.std.proofs.Common.{◌≡◌}
use Rattle.replay_page.specs.Page.{page}
use Rattle.replay_frames.specs.Frames.{waiting_to}
use Rattle.replay_frames.proofs.put_waiting_list.Given as goal

abbrev pub invariant-loop-i : goal.invariant-loop-i
invariant-loop-i l = page l.out l.k ≡ waiting_to l.list l.lent l.i (page l.initial.out l.at)
