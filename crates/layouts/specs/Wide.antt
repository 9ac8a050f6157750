-- The old layout of a list: 32 ids of 32 bytes each with their lengths, and a count; and W-207's store over such lists. The gate over
-- them has the same definition.
use Rattle.std.specs.Prelude.{Bool, false, cond, not, ◌&&◌, List, [], map, ℕ, eqb, ltb, length, take, replicate}
use Rattle.arrays.specs.Arrays.{padded}
use Rattle.phones.specs.declared.ShortId.{ShortId}
use Rattle.phones.specs.Ids.{some_of, all_of, Left, stays, becomes}
use Rattle.phones.specs.Phones.{id_bytes, id_of, too_long}
use Rattle.saved_record.specs.SavedRecord.{CarIds, twice}
use Rattle.state.specs.declared.Core.{Core}
use Rattle.state.specs.declared.Save.{Save}
use Rattle.state.specs.declared.Queue.{Queue}
use Rattle.state.specs.View.{View}
use Rattle.definition.specs.Gate.{Says, Form}

-- left as it lies, or laid anew
abbrev pub wide_laid : {A B : Type 0} → (B → A) → A → Left B → A
wide_laid lay x stays = x
wide_laid lay x (becomes y) = lay y

-- ---- a list

pub record WideList : Type 0 where
  pub ids : List ShortId
  pub count : ℕ

unfoldable pub wide_ids : WideList → List (List ℕ)
wide_ids l = map id_bytes (take l.count l.ids)

unfoldable pub wide_of : List (List ℕ) → WideList
wide_of ps = record { ids = padded 32 (id_of []) (map id_of ps); count = length ps }

unfoldable pub wide_in_range : WideList → Bool
wide_in_range l = cond (ltb 32 l.count) false (not (some_of too_long (take l.count l.ids)))

-- ---- a store

pub record WideCar : Type 0 where
  pub car : List ℕ
  pub phones : WideList

pub record WideStore : Type 0 where
  pub cars : List WideCar
  pub count : ℕ

unfoldable pub wide_car_ids : WideCar → CarIds
wide_car_ids c = record { car = c.car; phones = wide_ids c.phones }

unfoldable pub wide_cars : WideStore → List CarIds
wide_cars s = map wide_car_ids (take s.count s.cars)

unfoldable pub wide_car_of : CarIds → WideCar
wide_car_of c = record { car = c.car; phones = wide_of c.phones }

unfoldable pub wide_store_of : List CarIds → WideStore
wide_store_of cs = record { cars = padded 4 (wide_car_of (record { car = replicate 32 0; phones = [] })) (map wide_car_of cs); count = length cs }

unfoldable pub wide_car_in_range : WideCar → Bool
wide_car_in_range c = not (eqb (length (wide_ids c.phones)) 0) && wide_in_range c.phones

unfoldable pub wide_store_in_range : WideStore → Bool
wide_store_in_range s = cond (ltb 4 s.count) false (all_of wide_car_in_range (take s.count s.cars) && not (twice (wide_cars s)))

-- ---- a gate

pub record WideGate : Type 0 where
  pub core : Core
  pub paired : WideList
  pub store : WideStore
  pub save : Save
  pub queue : Queue
  pub code : List ℕ

unfoldable pub wide_view : WideGate → View
wide_view g = record {
  core = g.core;
  lists = record { paired = wide_ids g.paired; store = wide_cars g.store };
  paired_fits = wide_in_range g.paired;
  store_fits = wide_store_in_range g.store;
  save = g.save;
  queue = g.queue;
  code = g.code;
}

unfoldable pub wide_left : WideGate → Says → WideGate
wide_left g s = record {
  core = s.core;
  paired = wide_laid wide_of g.paired s.paired;
  store = wide_laid wide_store_of g.store s.store;
  save = s.save;
  queue = s.queue;
  code = s.code;
}

abbrev pub wide : Form WideGate WideList WideStore
wide = record { view = wide_view; left = wide_left; lay = wide_of; lay_store = wide_store_of }
