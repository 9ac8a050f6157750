use Rattle.add_validation.proofs.Laws.{last_put}
use Rattle.add_validation.proofs.put_last.Goals as goal

pub returns : goal.returns
returns c = λ cs x e f. last_put c.args.s c.args.c cs x c.requires e f
