use borrow.Author.Tests.{lt-ltb, le-ltb}
use Rattle.phones.specs.Phones.{made_id}
use Rattle.phones.proofs.make_id.Goals as goal

pub returns-then-s-gt32 : goal.returns-then-s-gt32
unfolding made_id
returns-then-s-gt32 c = rw (lt-ltb _ _ c.if-s-gt32.true)

pub returns-else-s-gt32 : goal.returns-else-s-gt32
unfolding made_id
returns-else-s-gt32 c = rw (le-ltb _ _ c.if-s-gt32.false, c.id_of.ensures)
