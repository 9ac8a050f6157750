use Rattle.std.proofs.Common.{arith}
use Rattle.text.proofs.Scan.{scan_start, scan_next, scan_blank, scan_white, scan_solid, scan_bad, scan_end}
use Rattle.text.proofs.trim.Goals as goal

pub loop-at-init : goal.loop-at-init
loop-at-init c = scan_start c.args.s.now

pub returns-in_err-point : goal.returns-in_err-point
returns-in_err-point c =
    let l = c.loop-at in
    rw c.from_residual.ensures (scan_bad c.args.s.now l.start l.end l.at l.invariant c.loop-at-test.true c.in_err-point.ensures)

pub overflow_add-at : goal.overflow_add-at
overflow_add-at c =
    let l = c.loop-at in
    let x = c.in_ok-point.field-0 in
    omega (arith, scan_next c.args.s.now l.start l.end l.at x.point x.size l.invariant c.in_ok-point.ensures)

pub loop-at-smaller-then-not-is_white : goal.loop-at-smaller-then-not-is_white
loop-at-smaller-then-not-is_white c =
    let l = c.loop-at in
    let x = c.in_ok-point.field-0 in
    omega (arith, scan_next c.args.s.now l.start l.end l.at x.point x.size l.invariant c.in_ok-point.ensures)

pub loop-at-preserved-then-not-is_white : goal.loop-at-preserved-then-not-is_white
loop-at-preserved-then-not-is_white c =
    let l = c.loop-at in
    let x = c.in_ok-point.field-0 in
    scan_solid c.args.s.now l.start l.end l.at x.point x.size l.invariant c.in_ok-point.ensures cc

pub loop-at-smaller-then-start-end : goal.loop-at-smaller-then-start-end
loop-at-smaller-then-start-end c =
    let l = c.loop-at in
    let x = c.in_ok-point.field-0 in
    omega (arith, scan_next c.args.s.now l.start l.end l.at x.point x.size l.invariant c.in_ok-point.ensures)

pub loop-at-preserved-then-start-end : goal.loop-at-preserved-then-start-end
loop-at-preserved-then-start-end c =
    let l = c.loop-at in
    let x = c.in_ok-point.field-0 in
    scan_blank c.args.s.now l.start l.end l.at x.point x.size l.invariant c.in_ok-point.ensures (cc) c.if-start-end.true

pub loop-at-smaller : goal.loop-at-smaller
loop-at-smaller c =
    let l = c.loop-at in
    let x = c.in_ok-point.field-0 in
    omega (arith, scan_next c.args.s.now l.start l.end l.at x.point x.size l.invariant c.in_ok-point.ensures)

pub loop-at-preserved : goal.loop-at-preserved
loop-at-preserved c =
    let l = c.loop-at in
    let x = c.in_ok-point.field-0 in
    scan_white c.args.s.now l.start l.end l.at x.point x.size l.invariant c.in_ok-point.ensures (cc) c.if-start-end.false

pub returns : goal.returns
returns c =
    let l = c.loop-at in
    scan_end c.args.s.now l.start l.end l.at l.invariant c.loop-at-test.false
