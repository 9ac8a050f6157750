-- What is left to lay down are the digits below place i.
use Rattle.std.proofs.Common.{◌≡◌, ◌-◌, ◌≤◌}
use Rattle.replay_page.specs.Page.{page}
use Rattle.replay_page.proofs.Laws.{digits_down}
use Rattle.replay_page.proofs.put_hexadecimal.Given as goal

abbrev pub invariant-loop-i : goal.invariant-loop-i
invariant-loop-i l = (1 ≤ l.i) × (digits_down l.n (l.i - 1) (page l.out l.k) ≡ digits_down l.n 7 (page l.initial.out l.at))
