use Rattle.std.proofs.Common.{arith}
use Rattle.phone_fields.proofs.Reading.{first_is, first_empty, first_not}
use Rattle.phone_fields.proofs.first_field.Goals as goal

pub returns-in_err-len : goal.returns-in_err-len
returns-in_err-len c = rw c.from_residual.ensures (first_empty _ c.in_err-len.ensures.cases)

pub returns-then-after-len : goal.returns-then-after-len
returns-then-after-len c = rw (c.in_ok-len.ensures.cases.0, ← c.from-len.ensures) (first_not _ _ c.if-after-len.either)

pub returns-else-after-len : goal.returns-else-after-len
returns-else-after-len c =
    let cut = c.split_at.ensures in
    let parts = c.in_ok-len.ensures.cases in
    let there = c.if-after-len.false in (
      λ left. rw (parts.0, cut.front, cut.back, ← c.from-len.ensures) (first_is _ _ there.0 there.1 left),
      omega (arith, cut.front_len),
      omega (arith, cut.front_len, cut.back_len, parts.1),
    )
