-- What is kept is what is left of the bytes before i.
use Rattle.text.proofs.Groups.{Kept}
use Rattle.text.proofs.ungroup.Given as goal

abbrev pub invariant-loop-i : goal.invariant-loop-i
invariant-loop-i l = Kept l.s l.kept l.behind l.i
