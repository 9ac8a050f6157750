use Rattle.std.proofs.Common.{◌≡◌, ℕ, min, length, List, arith}
use Rattle.waiting_list.specs.declared.Waiting.{Waiting}
use Rattle.waiting_list.specs.Queue.{waiting_of, next_bus, next_place}
use Rattle.waiting_list.proofs.Oldest.{waiting_length, buses, on_this, on_later, last_one}
use Rattle.waiting_list.proofs.next_place.Goals as goal

-- as many wait as `clip` says
counted : (l : List Waiting) (n m : ℕ) → length l ≡ 16 → m ≡ min n 16 → length (waiting_of l n) ≡ m
counted l n m far e = omega (arith, waiting_length l n)

pub loop-step-init : goal.loop-step-init
unfolding next_place next_bus buses
loop-step-init c = λ r e. e

pub loop-step-preserved : goal.loop-step-preserved
loop-step-preserved c =
    let a = c.args in
    let loop = c.loop-step in
    let len = counted a.all a.count _ c.well_formed.0.1.0.1 c.clip-n.ensures in
    λ r e. loop.invariant r (on_later _ a.last loop.step c.first_on-place.result c.first_on-place.ensures (omega arith) (omega arith) (omega arith) r e)

pub returns-then-place-n : goal.returns-then-place-n
returns-then-place-n c =
    let a = c.args in
    let loop = c.loop-step in
    let len = counted a.all a.count _ c.well_formed.0.1.0.1 c.clip-n.ensures in
    loop.invariant _ (on_this _ a.last loop.step c.first_on-place.result c.first_on-place.ensures (omega arith) (omega arith) (omega arith))

pub returns : goal.returns
returns c =
    let a = c.args in
    let loop = c.loop-step in
    loop.invariant _ (last_one _ a.last loop.step _ (omega arith) c.first_on.ensures)
