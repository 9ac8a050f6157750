use Rattle.replay_page.specs.Page.{text}
use Rattle.replay_played.specs.Played.{error_of}
use Rattle.replay_played.proofs.put_error.Goals as goal

pub returns-then-is_name : goal.returns-then-is_name
unfolding text error_of
returns-then-is_name c = rw (← c.is_name.ensures, c.if-is_name.true, ← c.put_text.ensures)

pub returns-else-is_name : goal.returns-else-is_name
unfolding text error_of
returns-else-is_name c = rw (← c.is_name.ensures, c.if-is_name.false, ← c.put_text-else-is_name.ensures)
