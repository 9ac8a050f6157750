use Rattle.std.proofs.Common.{◌≡◌}
use Rattle.bench_calls.specs.Rounds.{turns, first, allowed}
use Rattle.bench_calls.proofs.Laws.{run_of}
use Rattle.bench_calls.proofs.timed_allows.Given as goal

abbrev pub invariant-loop-i : goal.invariant-loop-i
invariant-loop-i l = run_of l.g l.sum ≡ turns (allowed l.frame l.class l.owner) (first l.initial.g) l.i
