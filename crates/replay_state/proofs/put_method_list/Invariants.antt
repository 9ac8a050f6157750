use Rattle.std.proofs.Common.{◌≡◌}
use Rattle.replay_page.specs.Page.{page}
use Rattle.replay_state.specs.Whole.{methods_to}
use Rattle.replay_state.proofs.put_method_list.Given as goal

abbrev pub invariant-loop-i : goal.invariant-loop-i
invariant-loop-i l = page l.out l.k ≡ methods_to l.m l.i (page l.initial.out l.at)
