use Rattle.std.proofs.Common.{rules}
use Rattle.arrays.proofs.Laws.{long_map}
use Rattle.saved_record.proofs.Laws.{used_clamped}
use Rattle.validations.specs.Store.{prune, pruning}
use Rattle.forget_validations.proofs.prune_phone_validations.Goals as goal

pub returns-then-some_unpaired : goal.returns-then-some_unpaired
unfolding prune pruning
returns-then-some_unpaired c =
    let e = used_clamped c.args.p.store c.clamp_cars.result (search (rules, long_map)) c.clamp_cars.ensures in
    rw (c.stored.ensures, c.with_paired.ensures, ← e, ← c.some_unpaired.ensures, c.if-some_unpaired.true)

pub returns-else-some_unpaired : goal.returns-else-some_unpaired
unfolding prune pruning
returns-else-some_unpaired c =
    let e = used_clamped c.args.p.store c.clamp_cars.result (search (rules, long_map)) c.clamp_cars.ensures in
    rw (c.unchanged.ensures, ← e, ← c.some_unpaired.ensures, c.if-some_unpaired.false)
