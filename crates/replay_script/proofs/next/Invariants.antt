-- The invariant: the values behind `from` are those behind `at`, where a space stands or the line ends.
use Rattle.std.proofs.Common.{◌≡◌, ◌-◌, ◌≤◌, ◌<◌, length, drop, get_or}
use Rattle.replay_script.specs.Words.{items_of}
use Rattle.replay_script.specs.Places.{values_of}
use Rattle.replay_script.proofs.next.Given as goal

abbrev pub invariant-loop-at : goal.invariant-loop-at
invariant-loop-at l = (l.from ≤ l.at) × (values_of l.key (items_of (drop l.from l.line)) ≡ values_of l.key (items_of (drop l.at l.line))) × (l.at < length l.line → get_or l.line l.at 0 ≡ 32)

abbrev pub decreases-loop-at : goal.decreases-loop-at
decreases-loop-at l = length l.line - l.at
