-- Pairings that changed beside the store.
use mathlib.Core.Path.{◌≡◌, refl}
use mathlib.Core.List.{List}
use Prim.Native.Nat.{ℕ}
use Rattle.phones.specs.Ids.{Left, stays, becomes}
use Rattle.phones.specs.Phones.{list_of}
use Rattle.state.specs.declared.Answer.{Answer}
use Rattle.state.specs.declared.Phones.{Phones}
use Rattle.state.specs.View.{listed_in}
use Rattle.saved_record.specs.SavedRecord.{CarIds}
use Rattle.validations.specs.Store.{storing}

-- the pairings are laid down first, then what becomes of the store
pub paired_first : (p : Phones) (a : Answer) (ps : List (List ℕ)) (x : Left (List CarIds))
    → listed_in (record { paired = list_of ps; store = p.store }) (storing a stays x) ≡ listed_in p (storing a (becomes ps) x)
paired_first p a ps stays = refl
paired_first p a ps (becomes s) = refl
