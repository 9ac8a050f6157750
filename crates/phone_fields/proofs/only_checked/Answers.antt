use Rattle.std.proofs.Common.{◌≡◌, ◌-◌, ◌+◌, ◌∙◌, suc, arith, refl}
use native.Mathlib.Nat.{sub-zero}
use Rattle.phone_fields.proofs.Reading.{read_all, checked_step}
use Rattle.phone_fields.proofs.only_checked.Goals as goal

pub loop-init : goal.loop-init
loop-init c = (omega arith, rw sub-zero refl)

pub returns-in-None : goal.returns-in-None
returns-in-None c =
    let loop = c.loop in
    let next : c.args.count - loop.counter ≡ suc (c.args.count - (loop.counter + 1)) = omega arith in
    rw (loop.invariant.1, next, c.in-None.ensures (c.args.count - (loop.counter + 1))) refl

pub loop-preserved : goal.loop-preserved
loop-preserved c =
    let loop = c.loop in
    let next : c.args.count - loop.counter ≡ suc (c.args.count - (loop.counter + 1)) = omega arith in
    let h = c.in-Some.ensures in
    (omega (arith, h.2), loop.invariant.1 ∙ rw next (checked_step c.args.total _ loop.rest.now _ _ (h.0 _)))

pub overflow_sub-result : goal.overflow_sub-result
overflow_sub-result c = omega (arith, c.requires)

pub returns : goal.returns
returns c = rw (c.loop.invariant.1, read_all (c.args.count - c.loop.counter) c.loop.rest.now (omega arith))
