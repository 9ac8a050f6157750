use Rattle.std.proofs.Common.{◌≡◌, ◌∙◌, length, take, rules, tests}
use Rattle.std.proofs.lemmas.Iterator.{YieldsList-from_slice, YieldsList-from_take}
use Rattle.std.proofs.lemmas.Iterator.Adapters.{position_from-zero}
use Rattle.std.proofs.lemmas.Iterator.Search.{position_from_yields_List}
use Rattle.std.specs.List.{position_from}
use Rattle.waiting_list.proofs.Oldest.{on, oldest_is}
use Rattle.waiting_list.proofs.first_on.Goals as goal

pub returns : goal.returns
returns c =
    let a = c.args in
    let far : length a.all ≡ 16 = c.well_formed.0.1.0.1 in
    let e : c.position.result ≡ position_from (on a.bus) 0 (take a.count a.all) =
    position_from_yields_List (on a.bus) c.position.new.self _ _ c.position.ensures.ran (YieldsList-from_take a.count (YieldsList-from_slice a.all cc) cc) (λ x b q k. search (rules, tests))
    ∙ position_from-zero (on a.bus) _ in
    rw (c.unwrap_or.ensures, c.clip.ensures) (oldest_is a.bus a.count a.all c.position.result far e)
