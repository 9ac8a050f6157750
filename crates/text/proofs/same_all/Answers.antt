use Rattle.std.proofs.Common.{length, sym, arith}
use Rattle.std.proofs.lemmas.List.{length_push}
use Rattle.std.proofs.lemmas.Slice.Zip.{zip_turn, zip_end}
use Rattle.arrays.proofs.Laws.{same_length}
use Rattle.text.proofs.Same.{gather_step, gather_end}
use Rattle.text.proofs.same_all.Goals as goal

pub returns-then-a-b : goal.returns-then-a-b
returns-then-a-b c = sym (same_length _ _ c.if-a-b.true)

pub loop-x-preserved : goal.loop-x-preserved
loop-x-preserved c =
    let a = c.args.a.now in
    let b = c.args.b.now in
    let l = c.loop-x in
    let t = zip_turn a b l.yielded c.into_iter-x-iterator.result c.loop-x.x-iterator c.next.new.self c.next.result (cc) (cc) l.yielded_by _ c.in-Some.is c.next.ensures.steps in
    rw (length_push l.yielded (c.in-Some.x, c.in-Some.y), t.2 0, t.3 0) (gather_step a b (length l.yielded) l.differ t.0 t.1 l.invariant)

pub returns : goal.returns
returns c =
    let a = c.args.a.now in
    let b = c.args.b.now in
    let l = c.loop-x in
    let n = zip_end a b l.yielded c.into_iter-x-iterator.result c.loop-x.x-iterator c.next.new.self c.next.result (cc) (cc) l.yielded_by c.in-None.is c.next.ensures.steps in
    gather_end a b (length l.yielded) l.differ (omega (arith, n)) (omega (arith, n)) l.invariant
