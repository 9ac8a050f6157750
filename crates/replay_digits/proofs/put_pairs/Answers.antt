use Rattle.std.proofs.Common.{◌≡◌, ◌∙◌, ◌+◌, ◌*◌, ◌++◌, ℕ, List, length, drop, get_or, take, refl, ap, add-one, arith}
use lib.ListN.{length-set}
use lib.Seq.{paste, paste-zero, paste-suc, take-length}
use Rattle.arrays.specs.Arrays.{put}
use Rattle.replay_digits.specs.Digits.{pairs_of}
use Rattle.replay_digits.proofs.Laws.{hex_at, pairs_length, pairs_at}
use Rattle.replay_digits.proofs.put_pairs.Goals as goal

pub loop-i-init : goal.loop-i-init
loop-i-init c = let a = c.args in (refl, paste-zero a.out.now a.at (pairs_of a.s.now))

pub overflow_mul-out : goal.overflow_mul-out
overflow_mul-out c =
    let s = c.args.s.now in
    let i = c.loop-i.i in
    let hex = c.requires.0 in
    omega (arith, c.digit-high.ensures, hex_at s (2 * i) hex (omega arith))

pub overflow_add-out : goal.overflow_add-out
overflow_add-out c =
    let s = c.args.s.now in
    let i = c.loop-i.i in
    let hex = c.requires.0 in
    omega (arith, c.digit-high.ensures, c.digit-low.ensures, hex_at s (2 * i) hex (omega arith), hex_at s (2 * i + 1) hex (omega arith))

pub loop-i-preserved : goal.loop-i-preserved
loop-i-preserved c =
    let a = c.args in
    let l = c.loop-i in
    let s = a.s.now in
    let d = a.out.now in
    let n = pairs_length s in
    let high = c.digit-high in
    let low = c.digit-low in
    let e : get_or (pairs_of s) l.i 0 ≡ high.result * 16 + low.result = pairs_at s l.i (omega arith) ∙ rw (high.ensures, low.ensures) in (
      simp length-set (omega arith),
      rw (l.invariant.1, ← e, add-one) (paste-suc d a.at (pairs_of s) l.i 0 (omega arith) (omega arith)),
    )

pub returns : goal.returns
unfolding put
returns c =
    let a = c.args in
    let l = c.loop-i in
    let p = pairs_of a.s.now in
    let e : l.i ≡ length p = omega (arith, pairs_length a.s.now) in
    l.invariant.1
    ∙ ap (λ (k : ℕ). paste a.out.now a.at p k) e
    ∙ ap (λ (x : List ℕ). take a.at a.out.now ++ x ++ drop (a.at + length p) a.out.now) (take-length p)
