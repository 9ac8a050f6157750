-- The three cases of the definitions. Assumes nothing.
use Rattle.std.proofs.Common.{refl, rules, le-ltb, lt-ltb}
use Rattle.replay.specs.Script.{kept_len, kept_in}
use Rattle.replay.proofs.keep.Goals as goal

pub returns-then-line-len : goal.returns-then-line-len
unfolding kept_len kept_in
returns-then-line-len c = rw (lt-ltb _ _ c.if-line-len.true) (refl, refl)

pub returns-then-line-len-2 : goal.returns-then-line-len-2
unfolding kept_len kept_in
returns-then-line-len-2 c = rw (le-ltb _ _ c.if-line-len.false, lt-ltb _ _ c.if-line-len-2.true) (refl, refl)

pub returns-else-line-len-2 : goal.returns-else-line-len-2
unfolding kept_len kept_in
returns-else-line-len-2 c = rw (le-ltb _ _ c.if-line-len.false, le-ltb _ _ c.if-line-len-2.false) (refl, c.put.ensures)
