use Rattle.std.proofs.Common.{◌≡◌}
use Rattle.bench_calls.specs.Rounds.{turns, first, floored}
use Rattle.bench_calls.proofs.Laws.{run_of}
use Rattle.bench_calls.proofs.timed_floors.Given as goal

abbrev pub invariant-loop-i : goal.invariant-loop-i
invariant-loop-i l = run_of l.g l.sum ≡ turns floored (first l.initial.g) l.i
