use Rattle.std.proofs.Common.{rules}
use Rattle.arrays.proofs.Laws.{long_map}
use Rattle.saved_record.proofs.Laws.{used_clamped}
use Rattle.validations.specs.Store.{forgetting}
use Rattle.forget_validations.proofs.forgetting.Goals as goal

pub returns-then-lists_phone : goal.returns-then-lists_phone
unfolding forgetting
returns-then-lists_phone c =
    let e = used_clamped c.args.p.store c.clamp_cars.result (search (rules, long_map)) c.clamp_cars.ensures in
    rw (c.stored.ensures, c.without_phone.ensures, ← e, ← c.lists_phone.ensures, c.if-lists_phone.true)

pub returns-else-lists_phone : goal.returns-else-lists_phone
unfolding forgetting
returns-else-lists_phone c =
    let e = used_clamped c.args.p.store c.clamp_cars.result (search (rules, long_map)) c.clamp_cars.ensures in
    rw (c.unchanged.ensures, ← e, ← c.lists_phone.ensures, c.if-lists_phone.false)
