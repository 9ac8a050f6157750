use Rattle.std.proofs.Common.{◌+◌, ◌∙◌, ap, arith, sym}
use Rattle.replay_script.specs.Places.{values_of}
use Rattle.replay_script.proofs.Laws.{found, items_from, items_end, values_none, word_inside, key_inside, values_hit, values_miss}
use Rattle.replay_script.proofs.next.Goals as goal

pub loop-at-init : goal.loop-at-init
loop-at-init c =
    let a = c.args in
    let line = a.line.now in
    let q = c.find-at.ensures in
    (omega arith, ap (values_of a.key.now) (items_from line a.from c.find-at.result q), found 32 line a.from c.find-at.result q)

pub slice_bounds-has_key-count : goal.slice_bounds-has_key-count
slice_bounds-has_key-count c = omega (arith, word_inside c.args.key.now c.args.line.now c.loop-at.at c.find-end.result (omega arith) c.find-end.ensures)

pub slice_bounds-has_key-end : goal.slice_bounds-has_key-end
slice_bounds-has_key-end c = omega (arith, word_inside c.args.key.now c.args.line.now c.loop-at.at c.find-end.result (omega arith) c.find-end.ensures)

pub overflow_add-start : goal.overflow_add-start
overflow_add-start c =
    let a = c.args in
    let f = c.find-end in
    let at = c.loop-at.at in
    let inside = word_inside a.key.now a.line.now at f.result (omega arith) f.ensures in
    omega (arith, key_inside a.key.now a.line.now at f.result (omega arith) f.ensures (sym c.has_key.ensures ∙ c.if-has_key.true))

pub returns-then-has_key : goal.returns-then-has_key
returns-then-has_key c =
    let line = c.args.line.now in
    let key = c.args.key.now in
    let l = c.loop-at in
    let f = c.find-end in
    let hit = sym c.has_key.ensures ∙ c.if-has_key.true in
    let far = key_inside key line l.at f.result (omega arith) f.ensures hit in
    record {
      values = l.invariant.1 ∙ values_hit key line l.at f.result (omega arith) f.ensures (l.invariant.2 (omega arith)) hit;
      ordered = omega arith;
      inside = word_inside key line l.at f.result (omega arith) f.ensures;
      onward = omega arith;
    }

pub loop-at-preserved : goal.loop-at-preserved
loop-at-preserved c =
    let line = c.args.line.now in
    let key = c.args.key.now in
    let l = c.loop-at in
    let f = c.find-end in
    let miss = sym c.has_key.ensures ∙ c.if-has_key.false in (
      omega arith,
      l.invariant.1 ∙ values_miss key line l.at f.result (omega arith) f.ensures (l.invariant.2 (omega arith)) miss,
      found 32 line (l.at + 1) f.result f.ensures,
    )

pub returns : goal.returns
returns c =
    let a = c.args in
    let l = c.loop-at in
    l.invariant.1 ∙ (ap (values_of a.key.now) (items_end a.line.now l.at (omega arith)) ∙ values_none a.key.now)
