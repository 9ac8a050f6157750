-- The invariant: the ids given so far and those left are all ids, and the lengths of those given are there.
use Rattle.std.proofs.Common.{◌≡◌, ℕ, List, ◌++◌, map, length}
use Rattle.arrays.specs.Arrays.{padded}
use Rattle.phones.specs.Ids.{joined}
use Rattle.phones.specs.Phones.{ids_left}
use Rattle.phones.proofs.measured.Given as goal

abbrev pub invariant-loop-i : goal.invariant-loop-i
invariant-loop-i l =
    (goal.iterator-loop-i).can_next l.i-iterator × (goal.iterator-loop-i).is_finite l.i-iterator
    × ((done : List (List ℕ)) × (ids_left l.fn.ids ≡ done ++ ids_left l.i-iterator.iter) × (l.i-iterator.count ≡ length done)
    × (l.lens ≡ padded 32 0 (map length done)) × (l.end ≡ length (joined done)))
