-- Where a car stands in the store.
use Rattle.std.specs.Prelude.{◌≡◌, Bool, false, cond, List, [], ◌∷◌, ℕ, suc, ◌⊎◌}
use Rattle.phones.specs.declared.PhoneList.{PhoneList}
use Rattle.phones.specs.Phones.{phones_of}
use Rattle.arrays.specs.Arrays.{same_bytes}
use Rattle.saved_record.specs.SavedRecord.{CarIds}

-- the place of the first car with this digest; the number of cars if there is none
unfoldable pub place_of : List ℕ → List CarIds → ℕ
place_of car [] = 0
place_of car (c ∷ cs) = cond (same_bytes c.car car) 0 (suc (place_of car cs))

-- a test said of a list with these phones; of none, that there is no car of it
abbrev pub ListPasses : (PhoneList → Bool → Type 0) → List (List ℕ) → Bool → Type 0
ListPasses test ps b = ((l : PhoneList) × (phones_of l ≡ ps) × test l b) ⊎ ((ps ≡ []) × (b ≡ false))
