-- Stores: what is laid down of cars is read back, is in range exactly if they fit (range/proofs/Stores.antt), and has the size of its type.
use mathlib.Core.Path.{◌≡◌, refl, ap, sym, subst}
use mathlib.Core.Bool.{true, not, and-eq-true_iff}
use mathlib.Core.List.{List, [], ◌∷◌, map}
use Prim.Native.Nat.{◌-◌}
use native.Mathlib.Omega.{arith}
use lib.Dec.{eqb}
use lib.ListN.{length, drop, replicate, length-map}
use lib.Seq.{drop_at}
use Rattle.arrays.specs.Arrays.{padded}
use Rattle.arrays.proofs.Laws.{padded_length}
use Rattle.phones.specs.Ids.{some_of, ids_fit, Left, stays, becomes}
use Rattle.saved_record.specs.declared.CarPhones.{CarPhones}
use Rattle.saved_record.specs.declared.Store.{Store}
use Rattle.saved_record.specs.SavedRecord.{CarIds}
use Rattle.saved_record.specs.Store.{laid_car, empty_car, store_of}
use Rattle.saved_record.proofs.Laws.{cars_of_store}
use Rattle.state.specs.View.{store_in_range, laid_store}
use Rattle.range.proofs.Stores.{ids_fit_lem, car_fits, cars_fit, CarsFit, Lays, laid_cars, laid_range, array_fits, store_range}
use Rattle.layouts.specs.Wide.{WideCar, WideStore, wide_ids, wide_car_ids, wide_cars, wide_car_of, wide_store_of, wide_car_in_range, wide_store_in_range}
use Rattle.layouts.specs.Layouts.{All, Sized, WideSized, SizedStore, WideSizedStore, Zeros, ZerosStore}
use Rattle.layouts.proofs.All.{all_map, all_repeat, all_padded, all_pass}
use Rattle.layouts.proofs.Laws.{fits_after}
use Rattle.layouts.proofs.Lists.{packed_sized, wide_sized, wide_reads, wide_fits, wide_range_fits, zeros_of_list}

-- ---- an array of cars that are laid down

module _ {C : Type 0} (lay : CarIds → C) (none : C) where
  all_past : (P : C → Type 0) → P none → (cs : List CarIds) → All P (drop (length cs) (padded 4 none (map lay cs)))
  unfolding padded
  all_past P p cs =
      let k = 4 - length (map lay cs) in
      let past : drop (length cs) (padded 4 none (map lay cs)) ≡ replicate k none = drop_at (map lay cs) (replicate k none) (length cs) (length-map cs lay) in
      subst (All P) (sym past) (all_repeat P k none p)

  -- each list has its size, past the cars too
  laid_sized : (P : C → Type 0) → P none → ((c : CarIds) → ids_fit c.phones ≡ true → P (lay c)) → (cs : List CarIds) → CarsFit cs
      → (length (padded 4 none (map lay cs)) ≡ 4) × All P (padded 4 none (map lay cs))
  laid_sized P z k cs f =
      let few = f.few in
      let m = length-map cs lay in (
        padded_length 4 none (map lay cs) (omega arith),
        all_padded P 4 none (map lay cs) z (all_map P lay _ (λ c h. k c (ids_fit_lem c.phones h)) cs (all_pass car_fits cs f.each)),
      )

-- ---- packed

pub store_left_range : (s : Store) (x : Left (List CarIds)) → store_in_range (laid_store s x) ≡ fits_after cars_fit (store_in_range s) x
store_left_range s stays = refl
store_left_range s (becomes cs) = store_range cs

pub store_sized : (cs : List CarIds) → CarsFit cs → SizedStore (store_of cs)
unfolding store_of empty_car laid_car ids_fit some_of
store_sized cs f =
    let s = laid_sized laid_car empty_car (λ (c : CarPhones). Sized c.phones) (packed_sized [] refl) (λ c h. packed_sized c.phones h) cs f in
    (s.0, s.1, all_past laid_car empty_car (λ (c : CarPhones). length c.car ≡ 32) refl cs)

-- ---- the old layout

wide_car_reads : (c : CarIds) → wide_car_ids (wide_car_of c) ≡ c
unfolding wide_car_ids wide_car_of
wide_car_reads c = rw (wide_reads c.phones)

wide_car_range : (c : CarIds) → wide_car_in_range (wide_car_of c) ≡ car_fits c
unfolding wide_car_in_range wide_car_of
wide_car_range c = rw (wide_reads c.phones, wide_fits c.phones)

wide_car_fits : (c : WideCar) → wide_car_in_range c ≡ true → car_fits (wide_car_ids c) ≡ true
unfolding wide_car_in_range wide_car_ids
wide_car_fits c h = let p = (and-eq-true_iff (not (eqb (length (wide_ids c.phones)) 0)) _).0 h in rw (p.0, wide_range_fits c.phones p.1)

-- a digest of zeros, no phones
abbrev no_car : WideCar
no_car = wide_car_of (record { car = replicate 32 0; phones = [] })

abbrev lies : Lays WideCar
lies = record { ids = wide_car_ids; lay = wide_car_of; none = no_car; fit = wide_car_in_range; reads = wide_car_reads; laid = wide_car_range; fits = wide_car_fits }

pub wide_store_reads : (cs : List CarIds) → wide_cars (wide_store_of cs) ≡ cs
unfolding wide_cars wide_store_of
wide_store_reads cs = laid_cars lies cs

pub wide_store_range : (cs : List CarIds) → wide_store_in_range (wide_store_of cs) ≡ cars_fit cs
unfolding wide_store_in_range wide_cars wide_store_of
wide_store_range cs = laid_range lies cs

pub wide_store_fits : (s : WideStore) → wide_store_in_range s ≡ true → CarsFit (wide_cars s)
unfolding wide_store_in_range wide_cars
wide_store_fits s h = array_fits lies s.cars s.count h

pub wide_store_sized : (cs : List CarIds) → CarsFit cs → WideSizedStore (wide_store_of cs)
unfolding wide_store_of wide_car_of ids_fit some_of
wide_store_sized cs f =
    let s = laid_sized wide_car_of no_car (λ (c : WideCar). WideSized c.phones) (wide_sized [] refl) (λ c h. wide_sized c.phones h) cs f in
    (s.0, s.1, all_past wide_car_of no_car (λ (c : WideCar). length c.car ≡ 32) refl cs)

-- ---- zeros past what is laid down

pub zeros_of_store : (cs : List CarIds) → ZerosStore (store_of cs)
unfolding store_of empty_car laid_car
zeros_of_store cs =
    let Z : CarPhones → Type 0 = λ c. Zeros c.phones in
    record {
      lists = all_padded Z 4 empty_car (map laid_car cs) (zeros_of_list []) (all_map Z laid_car (λ (c : CarIds). Unit {0}) (λ c t. zeros_of_list c.phones) cs (any cs));
      past = all_past laid_car empty_car (λ (c : CarPhones). c ≡ empty_car) refl cs;
      canonical = ap store_of (sym (cars_of_store cs));
    }
  where
    any : (cs : List CarIds) → All (λ (c : CarIds). Unit {0}) cs
    any [] = tt
    any (c ∷ cs) = (tt, any cs)
