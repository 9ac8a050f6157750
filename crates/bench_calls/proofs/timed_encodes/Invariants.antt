use Rattle.std.proofs.Common.{◌≡◌}
use Rattle.bench_calls.specs.Rounds.{turns, encoded}
use Rattle.bench_calls.proofs.timed_encodes.Given as goal

abbrev pub invariant-loop-i : goal.invariant-loop-i
invariant-loop-i l = l.r ≡ turns encoded l.initial.r l.i
