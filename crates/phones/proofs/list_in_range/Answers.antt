use mathlib.Core.Path.{refl}
use lib.Dec.{ltb}
use lib.ListN.{take}
use native.Mathlib.Omega.{arith}
use borrow.Author.Tests.{lt-ltb, le-ltb}
use Rattle.phones.specs.Phones.{list_in_range}
use Rattle.phones.proofs.Search.{some_again, some_found, some_end}
use Rattle.phones.proofs.list_in_range.Goals as goal

pub returns-then-l-gt32 : goal.returns-then-l-gt32
unfolding list_in_range
returns-then-l-gt32 c = rw (lt-ltb _ _ c.if-l-gt32.true)

pub loop-n-init : goal.loop-n-init
loop-n-init c = refl

pub returns-then-n-gt32 : goal.returns-then-n-gt32
unfolding list_in_range
returns-then-n-gt32 c =
    let l = c.args.l in
    rw (le-ltb _ _ c.if-l-gt32.false, some_found (ltb 32) (take l.count l.lens) 0 c.loop-n.n-index c.loop-n-test.true c.loop-n.invariant (lt-ltb _ _ c.if-n-gt32.true))

pub loop-n-preserved : goal.loop-n-preserved
loop-n-preserved c =
    let l = c.args.l in
    some_again (ltb 32) (take l.count l.lens) 0 c.loop-n.n-index c.loop-n-test.true c.loop-n.invariant (le-ltb _ _ c.if-n-gt32.false)

pub returns : goal.returns
unfolding list_in_range
returns c = rw (le-ltb _ _ c.if-l-gt32.false, some_end _ _ c.loop-n.n-index (omega arith) c.loop-n.invariant)
