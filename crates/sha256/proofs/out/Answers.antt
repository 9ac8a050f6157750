use Rattle.std.proofs.Common.{◌≡◌, ◌∙◌, length, sym, refl, ap, arith, take_all, rules}
use borrow.Rule.Slice.PartMut.{same_len_mid}
use Rattle.sha256.specs.Sha256.{bytes}
use Rattle.sha256.proofs.Padding.{bytes_step}
use Rattle.sha256.proofs.out.Goals as goal

pub loop-i-init : goal.loop-i-init
loop-i-init c = (refl, refl)

pub loop-i-preserved : goal.loop-i-preserved
loop-i-preserved c =
    let n : length c.args.s ≡ 8 = search rules in (
      same_len_mid _ _ c.loop-i.r _ c.copy_from_slice.ensures.len ∙ c.loop-i.invariant.0,
      bytes_step c.args.s c.loop-i.r _ c.loop-i.i _ (omega arith) (omega arith) c.loop-i.invariant.1 (c.copy_from_slice.ensures.after ∙ c.to_be_bytes.ensures),
    )

pub returns : goal.returns
returns c =
    let n : length c.args.s ≡ 8 = search rules in
    let e : c.loop-i.i ≡ 8 = omega arith in
    sym (take_all 32 c.loop-i.r (omega arith)) ∙ (rw e at c.loop-i.invariant.1) ∙ ap bytes (take_all 8 c.args.s (omega arith))
