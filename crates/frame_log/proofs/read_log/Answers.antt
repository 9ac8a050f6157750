use Rattle.std.proofs.Common.{◌≡◌, ◌+◌, ◌<◌, length, ◌∙◌, Err, arith, rules, tests}
use Rattle.frame_log.specs.declared.LogError.TheVariants.{BadLine}
use Rattle.frame_log.proofs.Reading.{line_le, line_some, kept_start, kept_end, kept_bad, kept_back, kept_over, kept_again}
use Rattle.frame_log.proofs.read_log.Goals as goal

pub loop-rest-init : goal.loop-rest-init
loop-rest-init c = kept_start c.args.s.now c.empty_frame-frames.result c.empty_frame-frames.ensures

pub split_at-requires : goal.split_at-requires
split_at-requires c = omega (arith, line_le c.loop-rest.rest.now, c.line_length.ensures)

pub returns-in_err-entry : goal.returns-in_err-entry
returns-in_err-entry c =
    let some : 0 < length c.loop-rest.rest.now = search (rules, tests) in
    let fault : c.from_residual.result ≡ Err (BadLine (c.loop-rest.n + 1)) = search rules in
    fault ∙ kept_bad _ _ _ _ _ _ c.loop-rest.invariant some _ c.line_length.ensures _ _ c.split_at.ensures.front c.split_at.ensures.back _ c.read_line.ensures c.in_err-entry.ensures.ok_part

pub returns-then-entry-last : goal.returns-then-entry-last
returns-then-entry-last c =
    let some : 0 < length c.loop-rest.rest.now = search (rules, tests) in
    kept_back _ _ _ _ _ _ c.loop-rest.invariant some _ c.line_length.ensures _ _ c.split_at.ensures.front c.split_at.ensures.back _ c.read_line.ensures _ c.in_ok-entry.ensures.ok_part c.if-entry-last.true

pub returns-then-n-ge512 : goal.returns-then-n-ge512
returns-then-n-ge512 c =
    let some : 0 < length c.loop-rest.rest.now = search (rules, tests) in
    kept_over _ _ _ _ _ _ c.loop-rest.invariant some _ c.line_length.ensures _ _ c.split_at.ensures.front c.split_at.ensures.back _ c.read_line.ensures _ c.in_ok-entry.ensures.ok_part c.if-entry-last.false c.if-n-ge512.true

pub loop-rest-preserved : goal.loop-rest-preserved
loop-rest-preserved c =
    let some : 0 < length c.loop-rest.rest.now = search (rules, tests) in
    kept_again _ _ _ _ _ _ c.loop-rest.invariant some _ c.line_length.ensures _ _ c.split_at.ensures.front c.split_at.ensures.back _ c.read_line.ensures _ c.in_ok-entry.ensures.ok_part c.if-entry-last.false c.if-n-ge512.false

pub loop-rest-smaller : goal.loop-rest-smaller
loop-rest-smaller c =
    let some : 0 < length c.loop-rest.rest.now = search (rules, tests) in
    omega (arith, line_some c.loop-rest.rest.now some, c.line_length.ensures, c.split_at.ensures.back_len)

pub returns : goal.returns
returns c =
    let none : length c.loop-rest.rest.now ≡ 0 = search (rules, tests) in
    kept_end _ _ _ _ _ _ c.loop-rest.invariant none
