-- What private functions of the code give.
use Rattle.std.specs.Prelude.{◌≡◌, List, [], ◌∷◌, ◌++◌, ℕ, zero, suc}
use Rattle.phones.specs.declared.PhoneList.{PhoneList}
use Rattle.phones.specs.Phones.{list_of}
use Rattle.saved_record.specs.declared.CarPhones.{CarPhones}
use Rattle.saved_record.specs.declared.Store.{Store}
use Rattle.saved_record.specs.SavedRecord.{CarIds}
use Rattle.saved_record.specs.Store.{laid_car, cars_of, store_of}
use Rattle.validations.specs.Store.{with_phones}

-- the car at a place has these phones now
unfoldable pub has_at : ℕ → List (List ℕ) → List CarIds → List CarIds
has_at at ps [] = []
has_at zero ps (c ∷ cs) = with_phones c ps ∷ cs
has_at (suc at) ps (c ∷ cs) = c ∷ has_at at ps cs

-- whatever ids the canonical list holds
abbrev pub PhonesPut : Store → ℕ → PhoneList → Store → Type 0
PhonesPut s at l r = (ps : List (List ℕ)) → l ≡ list_of ps → r ≡ store_of (has_at at ps (cars_of s))

-- whatever cars the canonical store holds, and whatever the canonical car
abbrev pub LastPut : Store → CarPhones → Store → Type 0
LastPut s l r = (cs : List CarIds) (c : CarIds) → s ≡ store_of cs → l ≡ laid_car c → r ≡ store_of (cs ++ (c ∷ []))
