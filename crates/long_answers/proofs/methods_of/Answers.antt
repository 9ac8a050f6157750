use Rattle.long_answers.proofs.Laws.{used_count}
use Rattle.long_answers.proofs.methods_of.Goals as goal

pub returns : goal.returns
returns c = rw (used_count, c.count_used.ensures, c.can_start_each.ensures, c.used_methods.ensures)
