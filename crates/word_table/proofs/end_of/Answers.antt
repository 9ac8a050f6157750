use Rattle.std.proofs.Common.{arith}
use Rattle.word_table.proofs.Laws.{before_here, before_more, before_end}
use Rattle.word_table.proofs.end_of.Goals as goal

pub returns-then-text-i : goal.returns-then-text-i
returns-then-text-i c = omega (arith, before_here c.args.b c.args.text.now c.loop-i.i (omega arith) c.if-text-i.true)

pub loop-i-preserved : goal.loop-i-preserved
loop-i-preserved c = omega (arith, before_more c.args.b c.args.text.now c.loop-i.i (omega arith) c.if-text-i.false)

pub returns : goal.returns
returns c =
    let a = c.args in
    grind (arith, before_end a.b a.text.now c.loop-i.i (omega arith), before_end a.b a.text.now a.at, c.loop-i.auto.i-end)
