-- The invariant: the first fall is the first one from `i` on, with the time before it at hand.
use Rattle.std.proofs.Common.{◌≡◌, suc, drop}
use Rattle.matcher.specs.Match.{fall_from, first_fall}
use Rattle.matcher.proofs.first_fall.Given as goal

abbrev pub invariant-loop-i : goal.invariant-loop-i
invariant-loop-i l = first_fall l.times ≡ fall_from (suc l.i) l.last (drop l.i l.times)
