-- By the digests of the four places: those of the cars in use are the cars in use with their digests.
use Rattle.std.proofs.Common.{rules, ◌≡◌, ◌∙◌, sym, ap, List, [], ◌∷◌, ℕ, min, take, length, map}
use borrow.Author.Tests.{tests}
use Rattle.std.specs.List.{position}
use Rattle.std.proofs.lemmas.Iterator.{YieldsList-from_slice}
use Rattle.std.proofs.lemmas.Iterator.Search.{position_from_yields_List}
use Rattle.std.proofs.lemmas.List.{take-map}
use Rattle.arrays.specs.Arrays.{same_bytes}
use Rattle.arrays.proofs.Laws.{long_map}
use Rattle.saved_record.specs.declared.CarPhones.{CarPhones}
use Rattle.saved_record.proofs.Laws.{place, four}
use Rattle.validations.proofs.Laws.{by_digests}
use Rattle.validations.proofs.position_in.Goals as goal

pub returns : goal.returns
returns c =
    let s = c.args.s in
    let car = c.args.car in
    let far : length s.cars ≡ 4 = search (rules, long_map) in
    let n = min s.count 4 in
    let digests : List (List ℕ) = (place s.cars 0).car ∷ (place s.cars 1).car ∷ (place s.cars 2).car ∷ (place s.cars 3).car ∷ [] in
    let are : digests ≡ map (λ (d : CarPhones). d.car) s.cars = ap (map (λ (d : CarPhones). d.car)) (sym (four s.cars far)) in
    let used : take n digests ≡ map (λ (d : CarPhones). d.car) (take n s.cars) = ap (take n) are ∙ take-map (λ (d : CarPhones). d.car) n s.cars in
    position_from_yields_List {all = take n digests} (λ (d : List ℕ). same_bytes d car) _ _ _ c.position.ensures.ran (YieldsList-from_slice _ (cc)) (λ x b q k. search (rules, tests))
    ∙ ap (position (λ (d : List ℕ). same_bytes d car)) used
    ∙ by_digests car (take n s.cars)
