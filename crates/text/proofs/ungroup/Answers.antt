use Rattle.std.proofs.Common.{◌≡◌, ◌+◌, ◌-◌, length, drop, get_or, length-drop, take_all, refl, ap, sym, ◌∙◌, arith}
use Rattle.text.specs.Text.{is_dropped}
use Rattle.arrays.specs.Arrays.{padded}
use Rattle.text.proofs.Groups.{kept_start, kept_dropped, kept_next, kept_ten, kept_end}
use Rattle.text.proofs.ungroup.Goals as goal
use Rattle.text.proofs.ungroup.Goals.{then-not-is_dropped, else-not-is_dropped}

pub loop-i-init : goal.loop-i-init
unfolding padded
loop-i-init c = kept_start c.args.s.now _ refl refl

pub loop-i-preserved : goal.loop-i-preserved
loop-i-preserved c =
    let s = c.args.s.now in
    let l = c.loop-i in
    let b = get_or s l.i 0 in
    let rest : c.is_dropped.result ≡ is_dropped l.behind b (drop (l.i + 1) s) =
    c.is_dropped.ensures ∙ ap (is_dropped l.behind b) (take_all (length s - (l.i + 1)) (drop (l.i + 1) s) (rw length-drop (omega arith))) in
    elim c.if-not-is_dropped.branch [
      | then-not-is_dropped w ↦ rw (w.kept-is, w.push.ensures, c.is_digit-behind.ensures)
          (kept_next s l.kept l.behind l.i l.invariant (sym rest ∙ w.if-not-is_dropped.true) c.loop-i-test.true (omega (arith, l.invariant.count, l.invariant.room)))
      | else-not-is_dropped w ↦ rw (w.kept-is, c.is_digit-behind.ensures)
          (kept_dropped s l.kept l.behind l.i l.invariant (sym rest ∙ w.if-not-is_dropped.false) c.loop-i-test.true)
    ]

pub returns-after-loop-i : goal.returns-after-loop-i
returns-after-loop-i c =
    let l = c.loop-i in
    kept_end c.args.s.now l.kept l.behind l.i l.invariant c.loop-i-test.false

pub returns-then-kept-eq10 : goal.returns-then-kept-eq10
returns-then-kept-eq10 c =
    let l = c.loop-i in
    kept_ten c.args.s.now l.kept l.behind l.i l.invariant (omega arith)
