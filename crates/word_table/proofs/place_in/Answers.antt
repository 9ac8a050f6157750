use Rattle.std.proofs.Common.{arith, sym, ◌∙◌}
use Rattle.word_table.proofs.Laws.{place_hit, place_miss, place_none}
use Rattle.word_table.proofs.place_in.Goals as goal

pub returns-then-is_named : goal.returns-then-is_named
returns-then-is_named c = omega (arith, c.loop-row.invariant.1, place_hit _ _ c.args.word.now _ c.in-Some.ensures.pieces (sym c.is_named.ensures ∙ c.if-is_named.true))

pub loop-row-preserved : goal.loop-row-preserved
loop-row-preserved c = (
  omega (arith, c.in-Some.ensures.shorter),
  omega (arith, c.loop-row.invariant.1, place_miss _ _ c.args.word.now _ c.in-Some.ensures.pieces (sym c.is_named.ensures ∙ c.if-is_named.false)),
)

pub returns : goal.returns
returns c = omega (arith, c.loop-row.invariant.1, place_none c.loop-row.rows.now c.args.word.now c.in_default.ensures.pieces)
