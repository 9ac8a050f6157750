use Rattle.std.proofs.Common.{◌≡◌, refl, sym, ◌∙◌, ap, List, ◌-◌, ◌+◌, min, length, set, arith}
use mathlib.Core.Logic.{⊎_elim}
use native.Mathlib.Nat.{eq-or-lt_of_le}
use Rattle.waiting_list.specs.declared.Waiting.{Waiting}
use Rattle.waiting_list.specs.Queue.{blank, record_at, moved, closed_up}
use Rattle.waiting_list.proofs.Moved.{moved_none, moved_one, moved_clip}
use Rattle.waiting_list.proofs.closed_up.Goals as goal

pub loop-i-init : goal.loop-i-init
loop-i-init c = (sym (moved_none _ _ _ (omega arith)), λ _. refl)

pub loop-i-preserved : goal.loop-i-preserved
loop-i-preserved c =
    let a = c.args in
    let loop = c.loop-i in (
      ap (λ (l : List Waiting). set l loop.i (record_at l (loop.i + 1))) loop.invariant.0 ∙ moved_one a.all a.at loop.i blank (omega arith) (omega (arith, c.last_of-i-end.ensures, c.well_formed.0.1.0.1)),
      λ h. absurd (omega (arith, h)),
    )

pub returns : goal.returns
unfolding closed_up
returns c =
    let a = c.args in
    let loop = c.loop-i in
    let last = c.last_of-i-end.result in
    let e = c.last_of-i-end.ensures in
    let far : length a.all ≡ 16 = c.well_formed.0.1.0.1 in
    loop.invariant.0 ∙
    ⊎_elim
    (λ (h : last ≡ loop.i). ap (moved a.all a.at) (sym h ∙ e))
    (λ h. moved_none a.all a.at loop.i (omega (arith, loop.invariant.1 h)) ∙ sym (moved_none a.all a.at (min a.count 16 - 1) (omega (arith, e, h, loop.invariant.1 h))))
    (eq-or-lt_of_le {n = last} {m = loop.i} (omega arith)) ∙
    moved_clip a.all a.at a.count far
