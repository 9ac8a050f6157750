use Rattle.std.proofs.Common.{◌≡◌}
use Rattle.bench_calls.specs.Rounds.{sent_first, turns}
use Rattle.bench_calls.proofs.Laws.{lending_of}
use Rattle.bench_calls.proofs.timed_sends.Given as goal

abbrev pub invariant-loop-i : goal.invariant-loop-i
invariant-loop-i l = lending_of l.g l.sum l.all ≡ turns (sent_first l.frame l.class l.owner) (lending_of l.initial.g 0 l.initial.all) l.i
