use Rattle.std.proofs.Common.{◌∙◌, rules}
use borrow.Author.Tests.{tests}
use Rattle.std.proofs.lemmas.Iterator.{YieldsList-from_slice}
use Rattle.std.proofs.lemmas.Iterator.Search.{any_from_yields_List}
use Rattle.phones.specs.Ids.{contains}
use Rattle.phones.specs.Phones.{phones_of}
use Rattle.saved_record.specs.SavedRecord.{CarIds}
use Rattle.saved_record.specs.Store.{car_of}
use Rattle.saved_record.specs.declared.CarPhones.{CarPhones}
use Rattle.forget_validations.proofs.Laws.{some_car}
use Rattle.forget_validations.proofs.lists_phone.Goals as goal

pub returns : goal.returns
unfolding car_of
returns c =
    any_from_yields_List (λ (x : CarPhones). contains c.args.id.now (phones_of x.phones)) _ _ _ c.any.ensures.ran (YieldsList-from_slice _ c.iter.ensures.rest) (λ x b q k. search (rules, tests))
    ∙ some_car (λ (x : CarIds). contains c.args.id.now x.phones) c.args.cars.now
