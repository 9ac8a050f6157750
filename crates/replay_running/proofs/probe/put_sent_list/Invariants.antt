use Rattle.std.proofs.Common.{◌≡◌}
use Rattle.replay_page.specs.Page.{page}
use Rattle.replay_running.specs.Probe.{sent_to}
use Rattle.replay_running.proofs.probe.put_sent_list.Given as goal

abbrev pub invariant-loop-i : goal.invariant-loop-i
invariant-loop-i l = page l.out l.k ≡ sent_to l.w l.i (page l.initial.out l.at)
