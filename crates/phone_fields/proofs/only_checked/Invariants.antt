-- The invariant: what is left to read from what remains gives the answer.
use Rattle.std.proofs.Common.{◌≡◌, ◌≤◌, ◌-◌, length}
use Rattle.phone_fields.specs.PhoneFields.{read_fields}
use Rattle.phone_fields.specs.Steps.{only_checked}
use Rattle.phone_fields.proofs.only_checked.Given as goal

abbrev pub invariant-loop : goal.invariant-loop
invariant-loop l = (length l.rest ≤ length l.part) × (only_checked l.total (read_fields l.count l.part) ≡ only_checked l.total (read_fields (l.count - l.counter) l.rest))
