use Rattle.std.proofs.Common.{◌≡◌, refl, ap, ◌∙◌, ℕ, ◌*◌, ◌+◌, arith, replicate}
use Rattle.sha256.specs.Sha256.{hash_from, H₀}
use Rattle.vectors.proofs.Repeated.{no_block, more, all}
use Rattle.vectors.proofs.million.Goals as goal

pub loop-init : goal.loop-init
loop-init c = (c.initial-h.ensures ∙ no_block, refl)

pub loop-preserved : goal.loop-preserved
loop-preserved c =
    let i = c.loop.counter in
    let n : 25 * i + 25 ≡ 25 * (i + 1) = omega arith in
    (c.hash_blocks-next.ensures ∙ more 97 (25 * i) 25 c.loop.invariant.0 c.loop.invariant.1 ∙ ap (λ (m : ℕ). hash_from H₀ (replicate (64 * m) 97) m) n, c.loop.invariant.1)

pub returns : goal.returns
returns c =
    let i = c.loop.counter in
    let e : i ≡ 625 = omega arith in
    c.finish.ensures ∙ all 97 (25 * i) 1000000 (omega arith) c.loop.invariant.0
