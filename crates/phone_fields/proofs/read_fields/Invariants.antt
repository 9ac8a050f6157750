-- The invariant: what is kept so far, and what is left to read from what remains.
use Rattle.phones.specs.Phones.{phones_of}
use Rattle.phone_fields.proofs.Reading.{Kept}
use Rattle.phone_fields.proofs.read_fields.Given as goal

abbrev pub invariant-loop-k : goal.invariant-loop-k
invariant-loop-k l = Kept l.count l.bytes l.rest l.k (phones_of l.packing.list)
