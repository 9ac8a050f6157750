use Rattle.std.proofs.Common.{◌≡◌}
use Rattle.bench_calls.specs.Rounds.{turns, first, restored}
use Rattle.bench_calls.proofs.Laws.{run_of}
use Rattle.bench_calls.proofs.timed_restores.Given as goal

abbrev pub invariant-loop-i : goal.invariant-loop-i
invariant-loop-i l = run_of l.g l.sum ≡ turns (restored l.bytes) (first l.initial.g) l.i
