-- The invariant: what is found from this bus on is what is found.
use Rattle.std.proofs.Common.{◌≡◌, ℕ, ◌%◌}
use Rattle.waiting_list.specs.Queue.{waiting_of, oldest_on, has_one, first_that, next_place}
use Rattle.waiting_list.proofs.Oldest.{buses}
use Rattle.waiting_list.proofs.next_place.Given as goal

abbrev pub invariant-loop-step : goal.invariant-loop-step
invariant-loop-step l =
    let ws = waiting_of l.all l.count in
    (r : ℕ) → r ≡ oldest_on (first_that (has_one ws) (buses l.last l.step) (l.last % 4)) ws → r ≡ next_place l.last ws
