use Rattle.std.proofs.Common.{ap, length, rules, arith}
use Rattle.phones.proofs.Laws.{next_id, no_ids}
use Rattle.phones.proofs.PackedIdsIterator.next.Goals as goal

pub returns-in_err-len-clause-steps : goal.returns-in_err-len-clause-steps
returns-in_err-len-clause-steps c =
    let p = c.args.self.now in
    let none = no_ids p.lens.now p.bytes.now c.in_err-len.ensures.cases in
    rw c.from_residual.ensures (none, none)

pub returns-clause-steps : goal.returns-clause-steps
returns-clause-steps c =
    let p = c.args.self.now in
    let cut = c.split_at.ensures in (
      next_id p.lens.now p.bytes.now _ _ _ _ _ c.in_ok-len.ensures.cases.0 c.part.ensures.0 cut.front cut.back,
      omega (arith, c.part.ensures.1, cut.front_len),
    )

pub returns-clause-goes : goal.returns-clause-goes
returns-clause-goes c =
    let p = c.args.self.now in
    let cut = c.split_at.ensures in
    let step = next_id p.lens.now p.bytes.now _ _ _ _ _ c.in_ok-len.ensures.cases.0 c.part.ensures.0 cut.front cut.back in
    let shorter = ap length step in
    search rules
