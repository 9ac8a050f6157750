use Rattle.std.proofs.Common.{◌∙◌, rules}
use borrow.Author.Tests.{tests}
use Rattle.std.proofs.lemmas.Iterator.Search.{any_from_yields_List}
use Rattle.arrays.specs.Arrays.{same_bytes}
use Rattle.phones.specs.Ids.{contains}
use Rattle.phones.specs.Phones.{ids_left}
use Rattle.phones.proofs.Search.{some_is}
use Rattle.phones.proofs.Yields.{ids_yield}
use Rattle.phones.proofs.found.Goals as goal

pub returns : goal.returns
unfolding contains
returns c =
    let a = c.args in
    any_from_yields_List (λ p. same_bytes p a.s.now) _ _ _ c.any.ensures.ran (ids_yield a.ids) (λ x b q k. search (rules, tests))
    ∙ some_is (λ p. same_bytes p a.s.now) (ids_left a.ids)
