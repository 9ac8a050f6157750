-- What is left of every list.
use Rattle.std.specs.Prelude.{◌≡◌, List, ℕ}
use Rattle.phones.specs.declared.PhoneList.{PhoneList}
use Rattle.phones.specs.Phones.{phones_of, list_of}
use Rattle.saved_record.specs.declared.Store.{Store}
use Rattle.saved_record.specs.SavedRecord.{CarIds}
use Rattle.saved_record.specs.Store.{store_of}
use Rattle.validations.specs.Store.{under_every}

-- whatever a change of a list makes of its phones, this store has of these cars
abbrev pub UnderEvery : (PhoneList → PhoneList → Type 0) → List CarIds → Store → Type 0
UnderEvery post cs r = (f : List (List ℕ) → List (List ℕ)) → ((l l' : PhoneList) → post l l' → l' ≡ list_of (f (phones_of l))) → r ≡ store_of (under_every f cs)
