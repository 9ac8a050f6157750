-- The first i phones are written.
use Rattle.std.proofs.Common.{◌≡◌}
use Rattle.list_cases.specs.Records.{with_phones}
use Rattle.list_cases.proofs.Draft.put_phones.Given as goal

abbrev pub invariant-loop-i : goal.invariant-loop-i
invariant-loop-i l = l.self ≡ with_phones l.i l.len l.initial.self
