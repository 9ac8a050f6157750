use Rattle.std.proofs.Common.{arith, rules}
use Rattle.sha256_block.proofs.Laws.{plus_all}
use Rattle.sha256_block.proofs.plus.Goals as goal

pub returns : goal.returns
returns c =
    plus_all _ _ _ (search rules) (search rules) (λ i h. let k = c.from_fn.ensures.items.at i 0 (omega arith) in search (rules, k.2))
