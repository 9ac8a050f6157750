use Rattle.std.proofs.Common.{◌∙◌, rules, tests}
use Rattle.std.proofs.lemmas.Iterator.{YieldsList-from_slice, YieldsList-from_take}
use Rattle.std.proofs.lemmas.Iterator.Search.{all_from_yields_List}
use Rattle.probe_window.proofs.Laws.{id_fits, ids_all}
use Rattle.probe_window.proofs.ids_in_range.Goals as goal

pub returns : goal.returns
returns c =
    all_from_yields_List id_fits _ _ _ c.all.ensures.ran (YieldsList-from_take _ (YieldsList-from_slice c.args.frames cc) cc) (λ x b q k. search (rules, tests)) ∙ ids_all _
