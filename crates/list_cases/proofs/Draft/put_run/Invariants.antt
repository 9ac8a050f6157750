-- The whole run gives what the bytes that are left give from where we are.
use Rattle.std.proofs.Common.{◌≡◌, ◌-◌}
use Rattle.list_cases.specs.Records.{with_run}
use Rattle.list_cases.proofs.Draft.put_run.Given as goal

abbrev pub invariant-loop : goal.invariant-loop
invariant-loop l = with_run l.first l.step l.n l.initial.self ≡ with_run l.b l.step (l.n - l.counter) l.self
