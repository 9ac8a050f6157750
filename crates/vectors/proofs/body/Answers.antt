use Rattle.std.proofs.Common.{rules}
use Rattle.vectors.proofs.Counted.{counted_all}
use Rattle.vectors.proofs.body.Goals as goal

pub returns : goal.returns
returns c = counted_all _ 4126 (search rules) (λ i h. let k = c.from_fn.ensures.items.at i 0 h in search (rules, k.2))
