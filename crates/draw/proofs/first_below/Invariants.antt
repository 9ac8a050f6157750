-- What is found is found among the groups that are left.
use Rattle.std.proofs.Common.{◌≡◌, drop}
use Rattle.draw.specs.Draw.{first_below}
use Rattle.draw.proofs.Laws.{among}
use Rattle.draw.proofs.first_below.Given as goal

abbrev pub invariant-loop-g : goal.invariant-loop-g
invariant-loop-g l = first_below l.limit l.s ≡ among l.limit (drop l.g-index l.groups)
