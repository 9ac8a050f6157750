use Rattle.std.proofs.Common.{◌≡◌, ◌-◌, ◌≤◌, length, drop, sym, refl, ap, ◌∙◌, not, arith}
use Rattle.replay_script.proofs.Laws.{found_le, never}
use Rattle.replay.specs.Script.{read, reading_of}
use Rattle.replay.proofs.Laws.{read_none, piece_end, piece_on}
use Rattle.replay.proofs.read_piece.Goals as goal

pub loop-from-init : goal.loop-from-init
loop-from-init g c = (omega arith, refl, refl, refl, refl)

pub slice_bounds-keep-count : goal.slice_bounds-keep-count
slice_bounds-keep-count g c = omega (arith, c.find-e.ensures)

pub slice_bounds-keep-start : goal.slice_bounds-keep-start
slice_bounds-keep-start g c = omega (arith, found_le 10 c.args.piece.now c.loop-from.from c.find-e.result c.find-e.ensures c.loop-from.invariant.0)

pub slice_bounds-keep-end : goal.slice_bounds-keep-end
slice_bounds-keep-end g c = omega (arith, found_le 10 c.args.piece.now c.loop-from.from c.find-e.result c.find-e.ensures c.loop-from.invariant.0)

pub returns-then-piece-e : goal.returns-then-piece-e
returns-then-piece-e g c =
    let l = c.loop-from in
    λ going. sym (l.invariant.4 ∙ piece_end c.args.piece.now l.line _ l.from _ c.find-e.ensures l.q.host l.q.number l.q.len _ _ l.invariant.1 c.keep.ensures c.if-piece-e.true)

pub finish_line-q-requires : goal.finish_line-q-requires
finish_line-q-requires g c = (omega arith, omega arith, omega arith)

pub overflow_add-from : goal.overflow_add-from
overflow_add-from g c = let good = c.well_formed in omega arith

pub loop-from-smaller : goal.loop-from-smaller
loop-from-smaller g c = omega (arith, c.find-e.ensures)

pub loop-from-preserved : goal.loop-from-preserved
loop-from-preserved g c =
    let l = c.loop-from in (
      omega arith,
      omega arith,
      omega arith,
      omega arith,
      l.invariant.4 ∙ piece_on c.args.piece.now l.line _ l.from _ c.find-e.ensures l.q.host l.q.number l.q.len _ _ l.invariant.1 c.keep.ensures _ _ c.finish_line-q.ensures c.if-piece-e.false,
    )

pub returns-then-not-q : goal.returns-then-not-q
returns-then-not-q g c = λ going. never (sym (ap not going) ∙ c.if-not-q.true)

pub returns : goal.returns
returns g c =
    let l = c.loop-from in
    λ going. sym (l.invariant.4 ∙ read_none _ c.args.piece.now l.from _ c.loop-from-test.false)
