use Rattle.std.proofs.Common.{◌∙◌, rules}
use borrow.Author.Tests.{tests}
use Rattle.std.proofs.lemmas.Iterator.{YieldsList-from_slice}
use Rattle.std.proofs.lemmas.Iterator.Search.{any_from_yields_List}
use Rattle.phones.specs.Phones.{phones_of}
use Rattle.saved_record.specs.Store.{car_of}
use Rattle.saved_record.specs.declared.CarPhones.{CarPhones}
use Rattle.validations.specs.Store.{loses_some}
use Rattle.forget_validations.proofs.Laws.{some_car}
use Rattle.forget_validations.proofs.some_unpaired.Goals as goal

pub returns : goal.returns
returns c =
    any_from_yields_List (λ (x : CarPhones). loses_some (phones_of c.args.paired) (car_of x)) _ _ _ c.any.ensures.ran (YieldsList-from_slice _ c.iter.ensures.rest) (λ x b q k. search (rules, tests))
    ∙ some_car (loses_some (phones_of c.args.paired)) c.args.cars.now
