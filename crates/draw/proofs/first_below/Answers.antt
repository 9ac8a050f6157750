-- The groups of the slice are those of the definition, and one is passed at a turn.
use Rattle.std.proofs.Common.{◌∙◌, sym, arith, drop_of_length-le}
use Rattle.draw.proofs.Laws.{among_chunks, among_here, among_next}
use Rattle.draw.proofs.first_below.Goals as goal

pub loop-g-init : goal.loop-g-init
loop-g-init c = rw c.as_chunks.ensures.front (sym (among_chunks c.args.limit _ c.args.s.now (omega arith)))

pub returns-then-v-limit : goal.returns-then-v-limit
returns-then-v-limit c = sym (c.loop-g.invariant ∙ among_here _ _ _ _ c.loop-g-test.true c.from_le_bytes-v.ensures c.if-v-limit.true)

pub loop-g-preserved : goal.loop-g-preserved
loop-g-preserved c = c.loop-g.invariant ∙ among_next _ _ _ _ c.loop-g-test.true c.from_le_bytes-v.ensures c.if-v-limit.false

pub returns : goal.returns
returns c = rw (c.loop-g.invariant, drop_of_length-le c.as_chunks.result.0.now c.loop-g-test.false)
