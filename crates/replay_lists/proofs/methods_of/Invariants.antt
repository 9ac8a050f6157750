-- The invariant: those read, and the items behind `at`, are all.
use Rattle.std.proofs.Common.{◌≡◌, ◌-◌, ◌≤◌, length, drop}
use Rattle.replay_script.specs.Words.{items_of}
use Rattle.replay_script.specs.Places.{values_of}
use Rattle.ascii.specs.Ascii.{ascii}
use Rattle.replay_lists.specs.Lists.{no_methods, add_methods}
use Rattle.replay_lists.proofs.methods_of.Given as goal

abbrev pub invariant-loop-v : goal.invariant-loop-v
invariant-loop-v l =
    (l.all.count ≤ l.at) × (l.at ≤ length l.line) × (add_methods no_methods (values_of (ascii "method") (items_of l.line)) ≡ add_methods l.all (values_of (ascii "method") (items_of (drop l.at l.line))))

abbrev pub decreases-loop-v : goal.decreases-loop-v
decreases-loop-v l = length l.line - l.at
