-- A car put last or given another list, and what that makes of the store.
use mathlib.Core.Path.{◌≡◌, refl, sym, ap, ◌∙◌}
use mathlib.Core.Bool.{Bool, true, false, cond}
use mathlib.Core.List.{List, [], ◌∷◌, ◌++◌, map}
use Prim.Native.Nat.compare
use Prim.Native.Nat.{ℕ, zero, suc, ◌+◌, ◌-◌, ◌≤◌, ◌<◌}
use native.Mathlib.Omega.{arith}
use borrow.Author.Tests.{lt-ltb, le-ltb}
use lib.Dec.{ltb}
use lib.ListN.{length, drop, get_or, set, length-append, length-drop, length-map}
use Rattle.arrays.specs.Arrays.{padded, same_bytes}
use Rattle.phones.specs.declared.PhoneList.{PhoneList}
use Rattle.phones.specs.Ids.{some_of, contains, ids_fit, stays, becomes, room_for, pushed}
use Rattle.phones.specs.Phones.{phones_of, list_of, laid}
use Rattle.phones.proofs.Laws.{phones_of_list}
use Rattle.phones.proofs.Packed.{always_room}
use Rattle.saved_record.specs.declared.CarPhones.{CarPhones}
use Rattle.saved_record.specs.declared.Store.{Store}
use Rattle.saved_record.specs.SavedRecord.{CarIds, has_car}
use Rattle.saved_record.specs.Store.{laid_car, cars_of, store_of}
use Rattle.saved_record.proofs.Laws.{past_cars}
use Rattle.state.specs.View.{laid_store}
use Rattle.validations.specs.Store.{with_phones, phones_for, car_has, displaced, validating}
use Rattle.validations.specs.Places.{place_of}
use Rattle.validations.proofs.Laws.{laid_more}
use Rattle.add_validation.specs.Laid.{has_at}

pub last_put : (s : Store) (l : CarPhones) (cs : List CarIds) (c : CarIds) → s.count < 4 → s ≡ store_of cs → l ≡ laid_car c
    → ◌≡◌ {A = Store} (record { cars = set s.cars s.count l; count = s.count + 1 }) (store_of (cs ++ (c ∷ [])))
unfolding store_of
last_put s l cs c h e f =
    let n : s.count ≡ length cs = ap (λ (x : Store). x.count) e in
    let m : length (cs ++ (c ∷ [])) ≡ length cs + 1 = length-append cs (c ∷ []) in
    rw (e, f, laid_more cs c (length cs) refl (omega arith), m)

-- ---- a car at a place

module _ (ps : List (List ℕ)) where
  has_length : (at : ℕ) (cs : List CarIds) → length (has_at at ps cs) ≡ length cs
  unfolding has_at
  has_length at [] = refl
  has_length zero (c ∷ cs) = refl
  has_length (suc at) (c ∷ cs) = ap suc (has_length at cs)

  has_laid : (at : ℕ) (cs : List CarIds) (x : List CarPhones) → at < length cs
      → set (map laid_car cs ++ x) at (record { car = (get_or (map laid_car cs ++ x) at past_cars).car; phones = list_of ps }) ≡ map laid_car (has_at at ps cs) ++ x
  unfolding has_at laid_car
  has_laid at [] x h = absurd (omega arith)
  has_laid zero (c ∷ cs) x h = refl
  has_laid (suc at) (c ∷ cs) x h = ap (λ (y : List CarPhones). laid_car c ∷ y) (has_laid at cs x (omega arith))

  pub phones_put : (s : Store) (at : ℕ) (l : PhoneList) (cs : List CarIds) → at < length cs → s ≡ store_of cs → l ≡ list_of ps
      → ◌≡◌ {A = Store} (record { cars = set s.cars at (record { car = (get_or s.cars at past_cars).car; phones = l }); count = s.count }) (store_of (has_at at ps cs))
  unfolding store_of padded
  phones_put s at l cs h e f =
      let a = length-map (has_at at ps cs) laid_car ∙ has_length at cs in
      let b = length-map cs laid_car in
      rw (e, f, has_length at cs, a, b) (ap (λ (y : List CarPhones). record { cars = y; count = length cs }) (has_laid at cs _ h))

-- ---- the car with a digest

module _ (car : List ℕ) where
  pub place_has : (cs : List CarIds) → ltb (place_of car cs) (length cs) ≡ has_car car cs
  unfolding place_of has_car some_of
  place_has [] = refl
  place_has (c ∷ cs) = go (same_bytes c.car car) (place_has cs)
    where
      go : (t : Bool) → ltb (place_of car cs) (length cs) ≡ has_car car cs → ltb (cond t 0 (suc (place_of car cs))) (suc (length cs)) ≡ cond t true (has_car car cs)
      go true e = lt-ltb 0 (suc (length cs)) (omega arith)
      go false e = rw compare.suc-suc e

  pub place_put : (ps : List (List ℕ)) (cs : List CarIds) → has_at (place_of car cs) ps cs ≡ car_has car ps cs
  unfolding place_of has_at car_has
  place_put ps [] = refl
  place_put ps (c ∷ cs) = go (same_bytes c.car car) (place_put ps cs)
    where
      go : (t : Bool) → has_at (place_of car cs) ps cs ≡ car_has car ps cs → has_at (cond t 0 (suc (place_of car cs))) ps (c ∷ cs) ≡ cond t (with_phones c ps ∷ cs) (c ∷ car_has car ps cs)
      go true e = refl
      go false e = ap (λ (y : List CarIds). c ∷ y) e

-- n cars are in use
module _ (s : Store) (car : List ℕ) (at n : ℕ) (e : at ≡ place_of car (cars_of s)) (en : n ≡ length (cars_of s)) where
  pub car_at : at < n → has_car car (cars_of s) ≡ true
  car_at h = sym (place_has car (cars_of s)) ∙ lt-ltb (place_of car (cars_of s)) (length (cars_of s)) (omega arith)

  pub car_none : n ≤ at → has_car car (cars_of s) ≡ false
  car_none h = sym (place_has car (cars_of s)) ∙ le-ltb (place_of car (cars_of s)) (length (cars_of s)) (omega arith)

-- how many cars are left from a place on
pub dropped_count : (s r : Store) (n from : ℕ) → n ≡ length (cars_of s) → r ≡ store_of (drop from (cars_of s)) → r.count ≡ n - from
unfolding store_of
dropped_count s r n from en e = ap (λ (x : Store). x.count) e ∙ rw (length-drop, ← en)

pub first_goes : (s : Store) (n : ℕ) → n ≡ length (cars_of s) → 3 < n → displaced (cars_of s) ≡ drop 1 (cars_of s)
unfolding displaced
first_goes s n en h = rw (lt-ltb 3 (length (cars_of s)) (omega arith))

pub none_goes : (s : Store) (n : ℕ) → n ≡ length (cars_of s) → n ≤ 3 → displaced (cars_of s) ≡ cars_of s
unfolding displaced
none_goes s n en h = rw (le-ltb 3 (length (cars_of s)) (omega arith))

-- ---- one phone more

-- a list of one phone
pub append_one : (s : List ℕ) → length s ≤ 32 → laid (list_of []) (pushed s (phones_of (list_of []))) ≡ list_of (s ∷ [])
unfolding ids_fit some_of
append_one s h = rw (phones_of_list [], always_room [] s refl (omega arith) h)

-- whether there was room is told by the count
module _ (l : PhoneList) (s : List ℕ) where
  pub grown : length (phones_of l) < length (phones_of (laid l (pushed s (phones_of l)))) → pushed s (phones_of l) ≡ becomes (phones_of l ++ (s ∷ []))
  unfolding pushed
  grown = go (room_for s (phones_of l))
    where
      go : (t : Bool) → length (phones_of l) < length (phones_of (laid l (cond t (becomes (phones_of l ++ (s ∷ []))) stays))) → cond t (becomes (phones_of l ++ (s ∷ []))) stays ≡ becomes (phones_of l ++ (s ∷ []))
      go true h = refl
      go false h = absurd (omega arith)

  pub not_grown : length (phones_of (laid l (pushed s (phones_of l)))) ≤ length (phones_of l) → pushed s (phones_of l) ≡ stays
  unfolding pushed
  not_grown = go (room_for s (phones_of l))
    where
      go : (t : Bool) → length (phones_of (laid l (cond t (becomes (phones_of l ++ (s ∷ []))) stays))) ≤ length (phones_of l) → cond t (becomes (phones_of l ++ (s ∷ []))) stays ≡ stays
      go true h =
          let e = ap length (phones_of_list (phones_of l ++ (s ∷ []))) ∙ length-append (phones_of l) (s ∷ []) in
          absurd (omega arith)
      go false h = refl

-- add_phone_validation, by what was found; `l` lists the phones of this car
module _ (s : Store) (car id : List ℕ) (l : PhoneList) (e : phones_of l ≡ phones_for car (cars_of s)) where
  pub validated_there : has_car car (cars_of s) ≡ true → contains id (phones_of l) ≡ true → s ≡ laid_store s (validating (cars_of s) car id)
  unfolding validating
  validated_there h k = rw (h, ← e, k)

  module _ (h : has_car car (cars_of s) ≡ true) (k : contains id (phones_of l) ≡ false) where
    pub validated_full : pushed id (phones_of l) ≡ stays → s ≡ laid_store s (validating (cars_of s) car id)
    unfolding validating
    validated_full p = rw (h, ← e, k, p)

    pub validated_more : (at : ℕ) (ps : List (List ℕ)) → at ≡ place_of car (cars_of s) → pushed id (phones_of l) ≡ becomes ps → store_of (has_at at ps (cars_of s)) ≡ laid_store s (validating (cars_of s) car id)
    unfolding validating
    validated_more at ps a p = rw (h, ← e, k, p, a, place_put car ps (cars_of s))

pub validated_new : (s : Store) (car id : List ℕ) → has_car car (cars_of s) ≡ false → store_of (displaced (cars_of s) ++ (record { car = car; phones = id ∷ [] } ∷ [])) ≡ laid_store s (validating (cars_of s) car id)
unfolding validating
validated_new s car id h = rw h
