use Rattle.std.proofs.Common.{◌≡◌, refl, ◌∙◌, suc, ◌-◌, arith, length-set}
use Rattle.draw.specs.Draw.{digits}
use Rattle.draw.proofs.Laws.{digits_start, digits_store}
use Rattle.draw.proofs.code_of.Goals as goal

pub loop-k-init : goal.loop-k-init
loop-k-init c = (c.requires, refl, digits_start c.args.v c.args.n c.requires)

pub loop-k-preserved : goal.loop-k-preserved
loop-k-preserved c =
    let at = c.loop-k in
    let e : suc (at.k - 1) ≡ at.k = omega arith in
    (c.requires, simp length-set at.invariant.1, at.invariant.2 ∙ (rw e at (digits_store at.rest (at.k - 1) at.code (omega arith))))

pub returns : goal.returns
unfolding digits
returns c =
    let at = c.loop-k in
    let e : at.k ≡ 0 = omega arith in
    rw (at.invariant.2, e)
