use Rattle.std.proofs.Common.{◌≡◌, refl, ap, inl, arith, length}
use Rattle.phones.specs.Phones.{phones_of, ids_left}
use Rattle.replay_lines.proofs.Laws.{ids_again, ids_end}
use Rattle.replay_lines.proofs.parts.put_phones.Goals as goal

pub loop-i-init : goal.loop-i-init
loop-i-init c =
    let it = c.into_iter-i-iterator in
    let source : ids_left it.result.iter ≡ phones_of c.args.l = rw (it.ensures.into_iter_gives, c.enumerate-i-items.ensures.source) c.ids.ensures.value in
    let from : it.result.count ≡ 0 = rw (it.ensures.into_iter_gives) c.enumerate-i-items.ensures.count in
    ((tt, tt, inl (omega (arith, ap length source, from, c.ids.ensures.few))), tt, (omega (arith, ap length source, from, c.ids.ensures.few), rw (source, from) refl))

pub loop-i-preserved : goal.loop-i-preserved
loop-i-preserved c =
    let loop = c.loop-i.invariant.2 in
    let step = c.in-Some.ensures.steps in
    let left = ap length step.0.0 in (
      (tt, tt, inl (omega (arith, loop.0, left, step.2))),
      tt,
      (omega (arith, loop.0, left, step.2), ids_again _ _ _ _ loop.1 _ _ _ _ _ step.0.0 step.1 step.2 c.put_phone_at-k.ensures),
    )

pub returns : goal.returns
returns c = ids_end _ _ _ _ c.loop-i.invariant.2.1 c.in-None.ensures.steps.0.0
