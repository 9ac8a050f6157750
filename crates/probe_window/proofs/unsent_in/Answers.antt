use Rattle.std.proofs.Common.{◌∙◌, rules, tests}
use Rattle.std.proofs.lemmas.Iterator.{YieldsList-from_slice, YieldsList-from_take, YieldsList-from_zip}
use Rattle.std.proofs.lemmas.Iterator.Adapters.{position_from-zero}
use Rattle.std.proofs.lemmas.Iterator.Consumers.{YieldsList-at}
use Rattle.std.proofs.lemmas.Iterator.Search.{position_from_yields_List}
use Rattle.probe_window.specs.Window.{unsent_in}
use Rattle.probe_window.proofs.Laws.{is_unsent, unsent_at}
use Rattle.probe_window.proofs.unsent_in.Goals as goal

pub returns : goal.returns
unfolding unsent_in
returns c =
    let w = c.args.w in
    position_from_yields_List (is_unsent c.args.frame) c.position.new.self _ _ c.position.ensures.ran
    (YieldsList-from_zip (YieldsList-at c.zip.ensures.first (YieldsList-from_take w.count (YieldsList-from_slice w.frames cc) cc)) (YieldsList-from_slice w.sent cc))
    (λ x b q k. search (rules, tests))
    ∙ (position_from-zero (is_unsent c.args.frame) _ ∙ unsent_at c.args.frame 0 _ w.sent)
