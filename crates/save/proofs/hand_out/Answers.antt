use mathlib.Core.Path.{◌≡◌, ap, ◌∙◌}
use native.Mathlib.Omega.{arith}
use borrow.Author.Rules.{rules}
use lib.ListN.{length}
use Rattle.arrays.specs.Arrays.{put}
use Rattle.save.proofs.Laws.{rest_length, rest_part, put_none}
use Rattle.save.proofs.hand_out.Goals as goal

pub overflow_add-s : goal.overflow_add-s
overflow_add-s c =
    let s = c.args.s in
    let far : length s.stored.bytes ≡ 4358 = search rules in
    let l = rest_length s far in
    let p = c.requires.0 in
    omega arith

pub slice_bounds-put-end : goal.slice_bounds-put-end
slice_bounds-put-end c =
    let s = c.args.s in
    let far : length s.stored.bytes ≡ 4358 = search rules in
    let l = rest_length s far in
    let p = c.requires.0 in
    omega arith

pub returns-then-n-gt0 : goal.returns-then-n-gt0
returns-then-n-gt0 c =
    let a = c.args in
    let far : length a.s.stored.bytes ≡ 4358 = search rules in
    c.put.ensures ∙ ap (put a.out.now 0) (rest_part a.s a.n far c.requires.0 c.if-n-gt0.true)

pub returns-else-n-gt0 : goal.returns-else-n-gt0
returns-else-n-gt0 c = put_none _ _ _ c.if-n-gt0.false
