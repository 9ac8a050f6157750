use Rattle.std.proofs.Common.{◌≡◌, ap, inl, arith, length}
use Rattle.phones.specs.Phones.{phones_of, ids_left}
use Rattle.list_removals.proofs.Kept.{keeping_start, few_left, place_below, room, keeping_on, keeping_past}
use Rattle.list_removals.proofs.keeping.Goals as goal

pub loop-i-init : goal.loop-i-init
loop-i-init g c =
    let it = c.into_iter-i-iterator in
    let source : ids_left it.result.iter ≡ phones_of c.args.l.now = rw (it.ensures.into_iter_gives, c.enumerate-i-items.ensures.source) c.ids.ensures.value in
    let from : it.result.count ≡ 0 = rw (it.ensures.into_iter_gives) c.enumerate-i-items.ensures.count in
    ((tt, tt, inl (omega (arith, ap length source, c.ids.ensures.few))), tt, rw (source, from, c.new-packing.ensures) (keeping_start _ _))

pub keep-requires : goal.keep-requires
keep-requires g c =
    let step = c.in-Some.ensures.steps in
    let below = place_below _ _ _ _ _ c.loop-i.invariant.2 c.in-Some.id _ step.0.0 (omega (arith, c.ids.ensures.few)) in
    c.requires _ _ (omega (arith, below, step.1))

pub push-requires-clause-room : goal.push-requires-clause-room
push-requires-clause-room g c =
    room _ _ _ _ _ c.loop-i.invariant.2 c.in-Some.id _ c.in-Some.ensures.steps.0.0 (omega (arith, c.ids.ensures.few)) (omega (arith, c.ids.ensures.within))

pub loop-i-preserved-then-keep : goal.loop-i-preserved-then-keep
loop-i-preserved-then-keep g c =
    let step = c.in-Some.ensures.steps in
    let passed = rw (c.if-keep.true, step.1) at c.keep.ensures in
    let on = keeping_on _ _ _ _ _ c.loop-i.invariant.2 _ _ step.0.0 passed in
    let left = few_left _ _ _ _ _ on in
    ((tt, tt, inl (omega (arith, left, step.2, c.ids.ensures.few))), tt, rw (step.2, c.push.ensures) on)

pub loop-i-preserved : goal.loop-i-preserved
loop-i-preserved g c =
    let step = c.in-Some.ensures.steps in
    let failed = rw (c.if-keep.false, step.1) at c.keep.ensures in
    let past = keeping_past _ _ _ _ _ c.loop-i.invariant.2 _ _ step.0.0 failed in
    let left = few_left _ _ _ _ _ past in
    ((tt, tt, inl (omega (arith, left, step.2, c.ids.ensures.few))), tt, rw step.2 past)
