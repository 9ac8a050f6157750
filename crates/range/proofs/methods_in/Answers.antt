use Rattle.std.proofs.Common.{◌∙◌, take, rules, tests}
use borrow.Author.Tests.{le-ltb}
use Rattle.std.proofs.lemmas.Iterator.{YieldsList-from_slice}
use Rattle.std.proofs.lemmas.Iterator.Search.{all_from_yields_List}
use Rattle.range.specs.Range.{method_fits, all_fit, methods_in}
use Rattle.range.proofs.Laws.{every}
use Rattle.range.proofs.methods_in.Goals as goal

pub returns-then-n-le8 : goal.returns-then-n-le8
unfolding methods_in all_fit
returns-then-n-le8 c =
    rw (le-ltb _ _ c.if-n-le8.true)
    (all_from_yields_List method_fits _ _ _ c.all.ensures.ran (YieldsList-from_slice (take c.args.n c.args.list) cc) (λ x b q k. search (rules, tests)) ∙ every method_fits _)
