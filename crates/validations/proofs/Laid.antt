-- What is laid down is read: of a list or a store that an operation leaves as it lies or lays anew.
use mathlib.Core.Path.{◌≡◌, refl}
use mathlib.Core.List.{List}
use Prim.Native.Nat.{ℕ}
use Rattle.phones.specs.declared.PhoneList.{PhoneList}
use Rattle.phones.specs.Ids.{Left, stays, becomes, afterwards}
use Rattle.phones.specs.Phones.{phones_of, laid}
use Rattle.phones.proofs.Laws.{phones_of_list}
use Rattle.saved_record.specs.declared.Store.{Store}
use Rattle.saved_record.specs.SavedRecord.{CarIds}
use Rattle.saved_record.specs.Store.{cars_of}
use Rattle.saved_record.proofs.Laws.{cars_of_store}
use Rattle.state.specs.View.{laid_store}

pub list_after_lem : (l : PhoneList) (x : Left (List (List ℕ))) → phones_of (laid l x) ≡ afterwards (phones_of l) x
list_after_lem l stays = refl
list_after_lem l (becomes ps) = phones_of_list ps

pub store_after : (s : Store) (x : Left (List CarIds)) → cars_of (laid_store s x) ≡ afterwards (cars_of s) x
store_after s stays = refl
store_after s (becomes cs) = cars_of_store cs
