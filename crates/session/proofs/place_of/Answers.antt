use Rattle.std.proofs.Common.{◌≡◌, ◌∙◌, Option, length, take, rules, tests}
use Rattle.std.proofs.lemmas.Iterator.{YieldsList-from_slice, YieldsList-from_take}
use Rattle.std.proofs.lemmas.Iterator.Adapters.{position_from-zero}
use Rattle.std.proofs.lemmas.Iterator.Search.{position_from_yields_List}
use Rattle.std.specs.List.{position_from}
use Rattle.arrays.proofs.Laws.{long_map}
use Rattle.session.proofs.Laws.{has_id, place_is}
use Rattle.session.proofs.place_of.Goals as goal

pub returns : goal.returns
returns c =
    let m = c.args.m in
    let id = c.args.id.now in
    let far : length m.list ≡ 8 = search (rules, long_map) in
    let e : c.position.result ≡ position_from (has_id id) 0 (take m.count m.list) =
    position_from_yields_List (has_id id) c.position.new.self _ _ c.position.ensures.ran (YieldsList-from_take m.count (YieldsList-from_slice m.list cc) cc) (λ x b q k. search (rules, tests))
    ∙ position_from-zero (has_id id) _ in
    rw (c.unwrap_or.ensures, c.min.ensures) (place_is m id c.position.result far e)
