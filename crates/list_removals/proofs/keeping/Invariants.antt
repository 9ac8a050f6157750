-- The invariant: what was kept so far, and the ids that are left.
use Rattle.phones.specs.Phones.{phones_of, ids_left}
use Rattle.list_removals.proofs.Kept.{Keeping}
use Rattle.list_removals.proofs.keeping.Given as goal

abbrev pub invariant-loop-i : goal.invariant-loop-i
invariant-loop-i g l =
    (goal.iterator-loop-i g).can_next l.i-iterator
    × (goal.iterator-loop-i g).is_finite l.i-iterator
    × Keeping (goal.F-post g l.keep) (phones_of l.fn.l) (ids_left l.i-iterator.iter) l.i-iterator.count (phones_of l.packing.list)
