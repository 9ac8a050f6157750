-- What a call sees of a gate: all of it but how its lists lie. That is known to `phones_of` and `list_in_range`, here in `view`, and to
-- `laid`, here in `laid_phones`; nothing above looks there.
use Rattle.std.specs.Prelude.{Bool, false, cond, not, ◌&&◌, List, ℕ, eqb, ltb, length, take}
use Rattle.phones.specs.Ids.{Left, stays, becomes, all_of}
use Rattle.phones.specs.Phones.{phones_of, list_in_range, laid}
use Rattle.saved_record.specs.declared.CarPhones.{CarPhones}
use Rattle.saved_record.specs.declared.Store.{Store}
use Rattle.saved_record.specs.SavedRecord.{CarIds, twice}
use Rattle.saved_record.specs.Store.{cars_of, store_of}
use Rattle.state.specs.declared.Core.{Core}
use Rattle.state.specs.declared.Phones.{Phones}
use Rattle.state.specs.declared.Save.{Save}
use Rattle.state.specs.declared.Queue.{Queue}
use Rattle.state.specs.declared.Gate.{Gate}
use Rattle.state.specs.declared.Answer.{Answer}
use Rattle.state.specs.declared.Raised.{Raised}
use Rattle.state.specs.declared.Listed.{Listed}

-- ---- what is seen

-- the ids of both lists; the store of validated phones has up to four cars, in order of first validation (W-207)
pub record Lists : Type 0 where
  pub paired : List (List ℕ)
  pub store : List CarIds

-- a gate; `paired_fits`, `store_fits`: the counts and lengths of that list, or of the store, are in range, and no digest stands under two cars
pub record View : Type 0 where
  pub core : Core
  pub lists : Lists
  pub paired_fits : Bool
  pub store_fits : Bool
  pub save : Save
  pub queue : Queue
  pub code : List ℕ

-- ---- what is said of the lists

-- an operation on lists: its answer, what it sends and whether S is sent too, and what becomes of each list
pub record Listing : Type 0 where
  pub answer : Answer
  pub raised : Raised
  pub stores : Bool
  pub paired : Left (List (List ℕ))
  pub store : Left (List CarIds)

-- both lists stay
unfoldable pub lists_stay : Raised → Answer → Listing
lists_stay r a = record { answer = a; raised = r; stores = false; paired = stays; store = stays }

-- ---- how lists lie

-- a car in use has 1 to 32 phones
unfoldable pub car_in_range : CarPhones → Bool
car_in_range c = not (eqb (length (phones_of c.phones)) 0) && list_in_range c.phones

-- at most four cars, each of them in range, and no digest under two of them; what stands past the count is not looked at
unfoldable pub store_in_range : Store → Bool
store_in_range s = cond (ltb 4 s.count) false (all_of car_in_range (take s.count s.cars) && not (twice (cars_of s)))

abbrev pub lists_in : Phones → Lists
lists_in p = record { paired = phones_of p.paired; store = cars_of p.store }

unfoldable pub view : Gate → View
view g = record {
  core = g.core;
  lists = lists_in g.phones;
  paired_fits = list_in_range g.phones.paired;
  store_fits = store_in_range g.phones.store;
  save = g.save;
  queue = g.queue;
  code = g.code;
}

abbrev pub laid_store : Store → Left (List CarIds) → Store
laid_store v stays = v
laid_store v (becomes cs) = store_of cs

abbrev pub laid_phones : Phones → Left (List (List ℕ)) → Left (List CarIds) → Phones
laid_phones p paired store = record { paired = laid p.paired paired; store = laid_store p.store store }

-- what an operation on lists gives, of what it says
abbrev pub listed_in : Phones → Listing → Listed
listed_in p x = record { answer = x.answer; raised = x.raised; stores = x.stores; phones = laid_phones p x.paired x.store }
