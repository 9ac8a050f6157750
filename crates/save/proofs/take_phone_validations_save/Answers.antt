use Rattle.std.proofs.Common.{◌≡◌, refl, arith, rules, length}
use borrow.Author.Tests.{tests}
use Rattle.save.proofs.Laws.{rest_length, take_some, take_all, take_none}
use Rattle.save.proofs.take_phone_validations_save.Goals as goal

pub overflow_add-result : goal.overflow_add-result
overflow_add-result c =
    let s = c.args.s in
    let far : length s.stored.bytes ≡ 4358 = search rules in
    let l = rest_length s far in
    let e = c.left_of-left.ensures in
    let h = c.if-out-left.true in
    omega arith

pub returns-then-out-left : goal.returns-then-out-left
returns-then-out-left c =
    let a = c.args in
    let e = c.left_of-left.ensures in
    let h = c.if-out-left.true in
    rw (take_some a.s a.out.now (search (rules, tests, c.if-not-s.false)) (omega arith)) (refl, c.hand_out.ensures)

pub returns-else-out-left : goal.returns-else-out-left
returns-else-out-left c =
    let a = c.args in
    let e = c.left_of-left.ensures in
    let h = c.if-out-left.false in
    rw (take_all a.s a.out.now (search (rules, tests, c.if-not-s.false)) (omega arith), c.no_save.ensures, ← e) (refl, c.hand_out-else-out-left.ensures)

pub returns-then-not-s : goal.returns-then-not-s
returns-then-not-s c = rw (take_none c.args.s c.args.out.now (search (rules, tests, c.if-not-s.true))) (refl, refl)
