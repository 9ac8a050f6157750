-- The invariant: the phones that are not left are written from `at` on.
use Rattle.phones.specs.Phones.{phones_of, ids_left}
use Rattle.phone_fields.proofs.Writing.{Written}
use Rattle.phone_fields.proofs.put_fields.Given as goal

abbrev pub invariant-loop-id : goal.invariant-loop-id
invariant-loop-id l =
    (goal.iterator-loop-id).can_next l.id-iterator × (goal.iterator-loop-id).is_finite l.id-iterator
    × Written (phones_of l.fn.l) (ids_left l.id-iterator) l.initial.out l.out l.at l.to
