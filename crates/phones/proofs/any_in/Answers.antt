use Rattle.std.proofs.Common.{◌∙◌, rules, ap}
use borrow.Author.Tests.{tests}
use Rattle.std.proofs.lemmas.Iterator.Search.{any_from_yields_List}
use Rattle.phones.specs.Ids.{contains, any_in}
use Rattle.phones.specs.Phones.{phones_of, ids_left}
use Rattle.phones.proofs.Search.{some_is}
use Rattle.phones.proofs.Yields.{ids_yield}
use Rattle.phones.proofs.any_in.Goals as goal

pub returns : goal.returns
unfolding any_in
returns c =
    let a = c.args in
    any_from_yields_List (λ p. contains p (phones_of a.other)) _ _ _ c.any.ensures.ran (ids_yield c.ids.result) (λ x b q k. search (rules, tests))
    ∙ some_is (λ p. contains p (phones_of a.other)) (ids_left c.ids.result)
    ∙ ap (any_in (phones_of a.other)) c.ids.ensures.value
