use Rattle.std.proofs.Common.{◌≡◌, ◌+◌, ◌-◌, ℕ, ap, arith, sym, ◌∙◌, get_or, []}
use Rattle.word_table.proofs.Laws.{row_step, row_none}
use Rattle.word_table.specs.Words.{lines_of}
use Rattle.word_table.proofs.row_at.Goals as goal

pub returns-in-None : goal.returns-in-None
returns-in-None c = row_none c.loop.rows.now (c.args.n - c.loop.counter) c.in-None.ensures.pieces ∙ sym c.loop.invariant

pub loop-preserved : goal.loop-preserved
loop-preserved c =
    let n = c.args.n - c.loop.counter in
    let less : n - 1 ≡ c.args.n - (c.loop.counter + 1) = omega arith in
    c.loop.invariant
    ∙ row_step _ _ _ n c.in-Some.ensures.pieces (omega arith)
    ∙ ap (λ (m : ℕ). get_or (lines_of 10 c.in-Some.rest.now) m []) less

pub returns-in-Some-first_piece : goal.returns-in-Some-first_piece
returns-in-Some-first_piece c =
    let here : c.args.n - c.loop.counter ≡ 0 = omega arith in
    sym (c.loop.invariant ∙ rw (here, c.in-Some-first_piece.ensures.pieces))

pub returns-in-None-first_piece : goal.returns-in-None-first_piece
returns-in-None-first_piece c = row_none c.loop.rows.now (c.args.n - c.loop.counter) c.in-None-first_piece.ensures.pieces ∙ sym c.loop.invariant
