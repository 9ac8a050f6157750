use Rattle.std.proofs.Common.{◌∙◌, arith, sym, rules}
use Rattle.replay_digits.proofs.Laws.{number_none, number_some, number_end, no_digit, too_many, one_more}
use Rattle.replay_digits.proofs.number_in.Goals as goal

pub returns-then-is_empty : goal.returns-then-is_empty
returns-then-is_empty c = sym (number_none _ _ _ (search rules))

pub loop-b-init : goal.loop-b-init
loop-b-init c = number_some _ _ _ (search rules)

pub returns-then-base-d : goal.returns-then-base-d
returns-then-base-d c =
    let l = c.loop-b in
    no_digit c.args.base c.args.most l.v c.args.s.now l.b-index c.from-d.result l.invariant (omega arith) (c.from-d.ensures ∙ c.digit.ensures) c.if-base-d.true

pub returns-in_err-checked_mul : goal.returns-in_err-checked_mul
returns-in_err-checked_mul c =
    let l = c.loop-b in
    c.from_residual.ensures
    ∙ too_many c.args.base c.args.most l.v c.args.s.now l.b-index c.from-d.result l.invariant (omega arith) (c.from-d.ensures ∙ c.digit.ensures) c.if-base-d.false (omega (arith, c.in_err-checked_mul.ensures, c.ranges.most.fits))

pub returns-in_err-v : goal.returns-in_err-v
returns-in_err-v c =
    let l = c.loop-b in
    c.from_residual-in_err-v.ensures
    ∙ too_many c.args.base c.args.most l.v c.args.s.now l.b-index c.from-d.result l.invariant (omega arith) (c.from-d.ensures ∙ c.digit.ensures) c.if-base-d.false (omega (arith, c.in_ok-checked_mul.ensures, c.in_err-v.ensures, c.ranges.most.fits))

pub returns-then-most-v : goal.returns-then-most-v
returns-then-most-v c =
    let l = c.loop-b in
    too_many c.args.base c.args.most l.v c.args.s.now l.b-index c.from-d.result l.invariant (omega arith) (c.from-d.ensures ∙ c.digit.ensures) c.if-base-d.false (omega (arith, c.in_ok-checked_mul.ensures, c.in_ok-v.ensures))

pub loop-b-preserved : goal.loop-b-preserved
loop-b-preserved c =
    let l = c.loop-b in
    one_more c.args.base c.args.most l.v c.args.s.now l.b-index c.from-d.result l.invariant (omega arith) (c.from-d.ensures ∙ c.digit.ensures) c.if-base-d.false c.in_ok-v.v (omega (arith, c.in_ok-checked_mul.ensures, c.in_ok-v.ensures)) c.if-most-v.false

pub returns : goal.returns
returns c =
    let a = c.args in
    let l = c.loop-b in
    sym (l.invariant ∙ number_end a.base a.most l.v a.s.now l.b-index (omega arith))
