use Rattle.std.proofs.Common.{arith}
use Rattle.saved_record.proofs.Laws.{past_cars}
use Rattle.forget_validations.proofs.Laws.{empty_count, leaving_start, leaving_some, leaving_none, leaving_end}
use Rattle.forget_validations.proofs.under_every.Goals.{then-count-gt0, else-count-gt0}
use Rattle.forget_validations.proofs.under_every.Goals as goal

pub loop-c-init : goal.loop-c-init
loop-c-init g c = let none = empty_count _ c.empty_store-left.ensures in (omega arith, leaving_start _ _ _ c.empty_store-left.ensures)

pub loop-c-preserved : goal.loop-c-preserved
loop-c-preserved g c =
    let i = c.loop-c.c-index in
    let inside = c.loop-c-test.true in
    let few = c.requires.few in
    let at = c.loop-c.invariant.0 in
    elim c.if-count-gt0.branch [
      | then-count-gt0 w ↦ rw w.left-is (omega arith, leaving_some _ _ i inside past_cars c.loop-c.left.cars c.loop-c.left.count c.loop-c.invariant.1 _ _ c.left_of-phones.ensures c.count.ensures (omega arith) w.if-count-gt0.true)
      | else-count-gt0 w ↦ rw w.left-is (omega arith, leaving_none _ _ i inside past_cars c.loop-c.left.cars c.loop-c.left.count c.loop-c.invariant.1 _ _ c.left_of-phones.ensures c.count.ensures w.if-count-gt0.false)
    ]

pub returns : goal.returns
returns g c = λ f h. leaving_end _ _ _ _ c.loop-c-test.false c.loop-c.invariant.1 f h
