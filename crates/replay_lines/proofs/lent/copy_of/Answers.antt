use Rattle.std.proofs.Common.{sym, zero-add}
use Rattle.replay_page.proofs.Laws.{front}
use Rattle.replay_lines.proofs.lent.copy_of.Goals as goal

pub returns : goal.returns
returns c = front 8192 _ _ c.args.lent.now c.requires (sym (zero-add _)) c.put.ensures
