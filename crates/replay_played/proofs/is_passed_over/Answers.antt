use Rattle.std.proofs.Common.{◌∙◌, rules}
use Rattle.replay_played.proofs.Laws.{over_empty, over_first}
use Rattle.replay_played.proofs.is_passed_over.Goals as goal

pub returns-then-is_empty : goal.returns-then-is_empty
returns-then-is_empty c = c.if-is_empty.true ∙ over_empty c.args.line.now (search rules)

pub returns-else-is_empty : goal.returns-else-is_empty
returns-else-is_empty c = over_first c.args.line.now (search rules)
