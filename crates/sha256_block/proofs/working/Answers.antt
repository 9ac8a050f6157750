use Rattle.std.proofs.Common.{◌≡◌, ◌+◌, ◌≤◌, refl, arith}
use Rattle.sha256_block.specs.Block.{K, M}
use Rattle.sha256_block.proofs.Laws.{Held, held_none, held_all, held_first, held_later}
use Rattle.sha256_block.proofs.working.Goals as goal

pub loop-t-init : goal.loop-t-init
loop-t-init c = (omega arith, refl, held_none _ _ _ refl)

pub loop-t-preserved : goal.loop-t-preserved
unfolding K
loop-t-preserved c =
    let at = c.loop-t in
    let t = at.t in
    let m = M c.args.m.now c.args.i in
    let last : t + 8 ≤ 16 = omega (arith, at.invariant.1) in
    let h1 : Held m c.args.s c.first-v1.new.w c.first-v1.result (t + 1) = held_first m c.args.s K _ _ _ _ t (t + 1) (omega arith) refl (omega arith) at.invariant.2 c.first-v1.ensures.0 c.first-v1.ensures.1 in
    let h2 : Held m c.args.s c.first-v2.new.w c.first-v2.result (t + 2) = held_first m c.args.s K _ _ _ _ (t + 1) (t + 2) (omega arith) refl (omega arith) h1 c.first-v2.ensures.0 c.first-v2.ensures.1 in
    let h3 : Held m c.args.s c.first-v3.new.w c.first-v3.result (t + 3) = held_first m c.args.s K _ _ _ _ (t + 2) (t + 3) (omega arith) refl (omega arith) h2 c.first-v3.ensures.0 c.first-v3.ensures.1 in
    let h4 : Held m c.args.s c.first-v4.new.w c.first-v4.result (t + 4) = held_first m c.args.s K _ _ _ _ (t + 3) (t + 4) (omega arith) refl (omega arith) h3 c.first-v4.ensures.0 c.first-v4.ensures.1 in
    let h5 : Held m c.args.s c.first-v5.new.w c.first-v5.result (t + 5) = held_first m c.args.s K _ _ _ _ (t + 4) (t + 5) (omega arith) refl (omega arith) h4 c.first-v5.ensures.0 c.first-v5.ensures.1 in
    let h6 : Held m c.args.s c.first-v6.new.w c.first-v6.result (t + 6) = held_first m c.args.s K _ _ _ _ (t + 5) (t + 6) (omega arith) refl (omega arith) h5 c.first-v6.ensures.0 c.first-v6.ensures.1 in
    let h7 : Held m c.args.s c.first-v7.new.w c.first-v7.result (t + 7) = held_first m c.args.s K _ _ _ _ (t + 6) (t + 7) (omega arith) refl (omega arith) h6 c.first-v7.ensures.0 c.first-v7.ensures.1 in
    let h8 : Held m c.args.s c.first-v8.new.w c.first-v8.result (t + 8) = held_first m c.args.s K _ _ _ _ (t + 7) (t + 8) (omega arith) refl (omega arith) h7 c.first-v8.ensures.0 c.first-v8.ensures.1 in
    (last, omega (arith, at.invariant.1), h8)

pub loop-t-2-preserved : goal.loop-t-2-preserved
unfolding K
loop-t-2-preserved c =
    let at = c.loop-t-2 in
    let t = at.t in
    let m = M c.args.m.now c.args.i in
    let early : 16 ≤ t = omega arith in
    let last : t + 8 ≤ 64 = omega (arith, at.invariant.1) in
    let h1 : Held m c.args.s c.later-v1.new.w c.later-v1.result (t + 1) = held_later m c.args.s K _ _ _ _ t (t + 1) (omega arith) (omega arith) refl (omega arith) at.invariant.2 c.later-v1.ensures.0 c.later-v1.ensures.1 in
    let h2 : Held m c.args.s c.later-v2.new.w c.later-v2.result (t + 2) = held_later m c.args.s K _ _ _ _ (t + 1) (t + 2) (omega arith) (omega arith) refl (omega arith) h1 c.later-v2.ensures.0 c.later-v2.ensures.1 in
    let h3 : Held m c.args.s c.later-v3.new.w c.later-v3.result (t + 3) = held_later m c.args.s K _ _ _ _ (t + 2) (t + 3) (omega arith) (omega arith) refl (omega arith) h2 c.later-v3.ensures.0 c.later-v3.ensures.1 in
    let h4 : Held m c.args.s c.later-v4.new.w c.later-v4.result (t + 4) = held_later m c.args.s K _ _ _ _ (t + 3) (t + 4) (omega arith) (omega arith) refl (omega arith) h3 c.later-v4.ensures.0 c.later-v4.ensures.1 in
    let h5 : Held m c.args.s c.later-v5.new.w c.later-v5.result (t + 5) = held_later m c.args.s K _ _ _ _ (t + 4) (t + 5) (omega arith) (omega arith) refl (omega arith) h4 c.later-v5.ensures.0 c.later-v5.ensures.1 in
    let h6 : Held m c.args.s c.later-v6.new.w c.later-v6.result (t + 6) = held_later m c.args.s K _ _ _ _ (t + 5) (t + 6) (omega arith) (omega arith) refl (omega arith) h5 c.later-v6.ensures.0 c.later-v6.ensures.1 in
    let h7 : Held m c.args.s c.later-v7.new.w c.later-v7.result (t + 7) = held_later m c.args.s K _ _ _ _ (t + 6) (t + 7) (omega arith) (omega arith) refl (omega arith) h6 c.later-v7.ensures.0 c.later-v7.ensures.1 in
    let h8 : Held m c.args.s c.later-v8.new.w c.later-v8.result (t + 8) = held_later m c.args.s K _ _ _ _ (t + 7) (t + 8) (omega arith) (omega arith) refl (omega arith) h7 c.later-v8.ensures.0 c.later-v8.ensures.1 in
    (last, omega (arith, at.invariant.1), h8)

pub returns : goal.returns
returns c = let e : c.loop-t-2.t ≡ 64 = omega arith in held_all _ _ c.loop-t-2.w _ (rw e at c.loop-t-2.invariant.2)
