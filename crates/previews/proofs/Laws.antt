-- What an operation leaves on a copy of the lists is what its preview tells.
use Rattle.std.proofs.Common.{◌≡◌}
use Rattle.state.specs.declared.Gate.{Gate}
use Rattle.state.specs.declared.Listed.{Listed}
use Rattle.state.specs.View.{Listing, view, listed_in}
use Rattle.phones.specs.Phones.{phones_of, list_of}
use Rattle.saved_record.specs.Store.{cars_of, store_of}
use Rattle.validations.specs.Store.{record_for}
use Rattle.validations.proofs.Laid.{list_after_lem, store_after}
use Rattle.answers.specs.Query.{preview, foreseen}
use Rattle.definition.specs.Gate.{laid_reply}

pub foreseen_laid : (g : Gate) (d : Listing) (x : Listed) → x ≡ listed_in g.phones d
    → preview x.answer (list_of (phones_of x.phones.paired)) (store_of (cars_of x.phones.store)) (record_for (cars_of x.phones.store)).len ≡ laid_reply (foreseen (view g).lists d)
unfolding foreseen view
foreseen_laid g d x e = rw (e, list_after_lem g.phones.paired d.paired, store_after g.phones.store d.store)
