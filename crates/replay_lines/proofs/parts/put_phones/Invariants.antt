-- The loop's invariant: what is left of the ids, written from here on, makes what is to be written.
use Rattle.std.proofs.Common.{◌≡◌, ◌+◌, ◌<◌, length}
use Rattle.phones.specs.Phones.{phones_of, ids_left}
use Rattle.replay_page.specs.Page.{page}
use Rattle.replay_lines.specs.Parts.{ids_from}
use Rattle.replay_lines.proofs.parts.put_phones.Given as goal

abbrev pub invariant-loop-i : goal.invariant-loop-i
invariant-loop-i l =
    (goal.iterator-loop-i).can_next l.i-iterator × (goal.iterator-loop-i).is_finite l.i-iterator
    × ((l.i-iterator.count + length (ids_left l.i-iterator.iter) < 33)
    × (ids_from 0 (phones_of l.fn.l) (page l.initial.out l.at) ≡ ids_from l.i-iterator.count (ids_left l.i-iterator.iter) (page l.out l.k)))
