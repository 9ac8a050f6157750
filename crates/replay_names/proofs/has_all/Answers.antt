use Rattle.std.proofs.Common.{◌≡◌, ◌∙◌, length, arith, sym, rules}
use Rattle.word_table.specs.Words.{lines_of}
use Rattle.replay_names.proofs.Laws.{one_less, not_right, no_key, too_many, none_left, behind_name, behind_none}
use Rattle.replay_names.proofs.has_all.Goals as goal
use Rattle.replay_names.proofs.has_all.Goals.{in-Some, in-None}
use Rattle.replay_names.proofs.has_all.Goals.{then-k-ge28-via-then-k-ge28, then-k-ge28-via-else-k-ge28+then-not-right-k, then-k-ge28-via-else-k-ge28+else-not-right-k+then-left-many}

pub loop-word-init : goal.loop-word-init
loop-word-init c =
    let a = c.args in
    elim c.match-first_piece.branch [
      | in-Some w ↦ rw w.words-is (behind_name (lines_of 10 a.keys.now) a.right a.many a.count a.row.now _ _ w.in-Some.ensures.pieces)
      | in-None w ↦ rw w.words-is (behind_none (lines_of 10 a.keys.now) a.right a.many a.count a.row.now w.in-None.ensures.pieces)
    ]

pub returns-then-k-ge28 : goal.returns-then-k-ge28
returns-then-k-ge28 c =
    let a = c.args in
    let l = c.loop-word in
    let p = c.in-Some-first_piece in
    let k = c.place_in-k in
    let far : length a.right ≡ 28 = search rules in
    elim c.then-k-ge28.branch [
      | then-k-ge28-via-then-k-ge28 w ↦
          sym (l.invariant ∙ no_key (lines_of 10 a.keys.now) a.right a.many l.left _ _ _ p.ensures.pieces k.result k.ensures (omega (arith, w.if-k-ge28.true)))
      | then-k-ge28-via-else-k-ge28+then-not-right-k w ↦
          sym (l.invariant ∙ not_right (lines_of 10 a.keys.now) a.right a.many l.left _ _ _ p.ensures.pieces k.result k.ensures w.if-not-right-k.true)
      | then-k-ge28-via-else-k-ge28+else-not-right-k+then-left-many w ↦
          sym (l.invariant ∙ too_many (lines_of 10 a.keys.now) a.right a.many l.left _ _ _ p.ensures.pieces k.result k.ensures w.if-not-right-k.false w.if-left-many.true)
    ]

pub loop-word-preserved : goal.loop-word-preserved
loop-word-preserved c =
    let a = c.args in
    let l = c.loop-word in
    let p = c.in-Some-first_piece in
    let k = c.place_in-k in
    l.invariant ∙ one_less (lines_of 10 a.keys.now) a.right a.many l.left _ _ _ p.ensures.pieces k.result k.ensures c.if-not-right-k.false c.if-left-many.false

pub returns : goal.returns
returns c =
    let a = c.args in
    let l = c.loop-word in
    sym (l.invariant ∙ none_left (lines_of 10 a.keys.now) a.right a.many l.left l.words.now c.in_default.ensures.pieces)
