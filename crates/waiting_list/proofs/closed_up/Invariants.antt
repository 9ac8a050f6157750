-- The invariant: the places from `at` up to i hold what the next place held.
use Rattle.std.proofs.Common.{◌≡◌, ◌<◌}
use Rattle.waiting_list.specs.Queue.{moved}
use Rattle.waiting_list.proofs.closed_up.Given as goal

abbrev pub invariant-loop-i : goal.invariant-loop-i
invariant-loop-i l = (l.l ≡ moved l.initial.l l.at l.i) × (l.i-end < l.i → l.i ≡ l.at)
