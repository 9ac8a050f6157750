-- The invariant: the run stands where as many turns as were taken lead from its beginning.
use mathlib.Core.Path.{◌≡◌}
use Prim.Native.Nat.{◌≤◌}
use lib.ListN.{length}
use Rattle.state.specs.View.{lists_in}
use Rattle.can_turns.specs.Turns.{Serving, turns}
use Rattle.can_turns.specs.Steps.{run_of}
use Rattle.can_turns.proofs.serve_can_frames.Given as goal

abbrev pub invariant-loop : goal.invariant-loop
invariant-loop l = (l.n ≤ 16) × ((x : Serving) → l.initial.s ≡ run_of x → length x.list ≡ 16 → length x.decided ≡ 0 → l.s ≡ run_of (turns (lists_in l.phones) l.clock l.counter x))
