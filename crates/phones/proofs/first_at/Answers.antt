use Rattle.std.proofs.Common.{rules, arith, inl}
use borrow.Author.Tests.{tests}
use Rattle.std.proofs.lemmas.Iterator.Search.{position_from_yields_List}
use Rattle.arrays.specs.Arrays.{same_bytes}
use Rattle.phones.proofs.Laws.{ids_length}
use Rattle.phones.proofs.Yields.{ids_yield}
use Rattle.phones.proofs.first_at.Goals as goal

pub position-requires-clause-fits : goal.position-requires-clause-fits
position-requires-clause-fits c =
    let p = c.args.ids in
    let w = c.ranges.ids in
    inl (rw ids_length (omega arith))

pub returns : goal.returns
returns c =
    let a = c.args in
    position_from_yields_List (λ p. same_bytes p a.s.now) _ _ _ c.position.ensures.ran (ids_yield a.ids) (λ x b q k. search (rules, tests))
