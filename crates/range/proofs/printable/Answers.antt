use Rattle.std.proofs.Common.{◌∙◌, rules, tests}
use Rattle.std.proofs.lemmas.Iterator.{YieldsList-from_slice}
use Rattle.std.proofs.lemmas.Iterator.Search.{all_from_yields_List}
use Rattle.range.specs.Range.{within, printable}
use Rattle.range.proofs.Laws.{every}
use Rattle.range.proofs.printable.Goals as goal

pub returns : goal.returns
unfolding printable
returns c =
    all_from_yields_List (within 33 126) _ _ _ c.all.ensures.ran (YieldsList-from_slice c.args.s.now cc) (λ x b q k. search (rules, tests)) ∙ every (within 33 126) c.args.s.now
