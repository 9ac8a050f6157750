use borrow.Author.Rules.{rules}
use borrow.Author.Tests.{lt-ltb, le-ltb, eq-eqb}
use mathlib.Core.Path.{◌≡◌}
use native.Mathlib.Numerals.{add-one}
use lib.ListN.{length}
use Rattle.can_queue.proofs.Laws.{sending_looked}
use Rattle.can_queue.proofs.send_can_frame.Goals as goal

pub returns-then-q-gt15 : goal.returns-then-q-gt15
returns-then-q-gt15 c =
    let a = c.args in
    rw (c.unsent-then-q-gt15.ensures, sending_looked a.q a.all a.frame a.class a.owner.now, ← c.in-Ok.ensures, lt-ltb _ _ c.if-q-gt15.true)

pub returns-in-Err : goal.returns-in-Err
returns-in-Err c =
    let a = c.args in
    rw (c.unsent.ensures, sending_looked a.q a.all a.frame a.class a.owner.now, ← c.in-Err.ensures)

pub returns-else-q-gt15 : goal.returns-else-q-gt15
returns-else-q-gt15 c =
    let a = c.args in
    let far : length a.all ≡ 16 = search rules in
    rw (add-one, c.put_record.ensures, sending_looked a.q a.all a.frame a.class a.owner.now, ← c.in-Ok.ensures, le-ltb _ _ c.if-q-gt15.false, eq-eqb _ _ far)
