-- Laws of the store, and steps of the loops over its cars.
use mathlib.Core.Path.{◌≡◌, refl, ap, ◌∙◌}
use mathlib.Core.Bool.{true}
use mathlib.Core.List.{List, [], ◌∷◌, map}
use Prim.Native.Nat.{ℕ, zero, suc, ◌-◌, ◌≤◌, ◌<◌, min}
use native.Mathlib.Omega.{arith}
use lib.Dec.{ltb}
use borrow.Author.Tests.{lt-ltb}
use lib.ListN.{length, take, get_or, replicate, length-map, length-take, get_or-map}
use lib.Seq.{get_or-take, take_at, take-nil}
use Rattle.arrays.specs.Arrays.{padded}
use Rattle.phones.specs.Ids.{some_of}
use Rattle.phones.proofs.Laws.{phones_of_list, take_min}
use Rattle.saved_record.specs.declared.CarPhones.{CarPhones}
use Rattle.saved_record.specs.declared.Store.{Store}
use Rattle.saved_record.specs.SavedRecord.{CarIds, has_car, twice}
use Rattle.saved_record.specs.Steps.{twice_at}
use Rattle.saved_record.specs.Store.{car_of, laid_car, empty_car, cars_of, store_of}

-- ---- what is read back

pub car_of_laid : (c : CarIds) → car_of (laid_car c) ≡ c
unfolding car_of laid_car
car_of_laid c = rw (phones_of_list c.phones)

cars_laid : (cs : List CarIds) → map car_of (map laid_car cs) ≡ cs
cars_laid [] = refl
cars_laid (c ∷ cs) = rw (car_of_laid c, cars_laid cs)

-- the canonical store of some cars holds them
pub cars_of_store : (cs : List CarIds) → cars_of (store_of cs) ≡ cs
unfolding cars_of store_of padded
cars_of_store cs =
    rw (take_at (map laid_car cs) (replicate (4 - length (map laid_car cs)) empty_car) (length cs) (length-map cs laid_car)) (cars_laid cs)

-- ---- the cars in use of an array

-- what an array of cars is taken to hold past its end: it has four, so that this is never read
abbrev pub past_cars : CarPhones
past_cars = record { car = []; phones = record { bytes = []; lens = []; count = 0 } }

abbrev pub used : ℕ → List CarPhones → List CarIds
used n cars = map car_of (take n cars)

-- a count above 4 counts as 4
pub used_clamped : (s : Store) (n : ℕ) → length s.cars ≡ 4 → n ≡ min s.count 4 → used n s.cars ≡ cars_of s
unfolding cars_of
used_clamped s n h e = rw (e, ← h, take_min s.count s.cars)

pub used_length : (n : ℕ) (cars : List CarPhones) → n ≤ length cars → length (used n cars) ≡ n
used_length n cars h = length-map (take n cars) car_of ∙ rw length-take (omega arith)

pub used_at : (n : ℕ) (cars : List CarPhones) (i : ℕ) → i < n → get_or (used n cars) i (car_of past_cars) ≡ car_of (get_or cars i past_cars)
used_at n cars i h = get_or-map car_of (take n cars) i past_cars ∙ ap car_of (get_or-take n cars i past_cars h)

-- ---- the four places, written out

abbrev pub place : List CarPhones → ℕ → CarPhones
place cars i = get_or cars i past_cars

pub four : (cars : List CarPhones) → length cars ≡ 4 → cars ≡ place cars 0 ∷ place cars 1 ∷ place cars 2 ∷ place cars 3 ∷ []
four (a ∷ b ∷ c ∷ d ∷ []) e = refl
four [] e = absurd (omega arith)
four (a ∷ []) e = absurd (omega arith)
four (a ∷ b ∷ []) e = absurd (omega arith)
four (a ∷ b ∷ c ∷ []) e = absurd (omega arith)
four (a ∷ b ∷ c ∷ d ∷ x ∷ xs) e = absurd (omega arith)

-- the cars in use are those of the places below the count
pub written_out : (s : Store) → length s.cars ≡ 4
    → cars_of s ≡ used s.count (place s.cars 0 ∷ place s.cars 1 ∷ place s.cars 2 ∷ place s.cars 3 ∷ [])
unfolding cars_of
written_out s e = ap (used s.count) (four s.cars e)

-- each of the four places is below a count of four or more
pub below : (i n : ℕ) → i < 4 → ltb i (suc (suc (suc (suc n)))) ≡ true
below i n h = lt-ltb i (suc (suc (suc (suc n)))) (omega arith)

-- which of the digests at the places occur again
twice_used : (n : ℕ) (a b c d : CarPhones) → twice (used n (a ∷ b ∷ c ∷ d ∷ [])) ≡ twice_at n a.car b.car c.car d.car
unfolding twice has_car some_of car_of twice_at
twice_used zero a b c d = refl
twice_used (suc zero) a b c d = refl
twice_used (suc (suc zero)) a b c d = refl
twice_used (suc (suc (suc zero))) a b c d = refl
twice_used (suc (suc (suc (suc n)))) a b c d = rw (below 1 n (omega arith), below 2 n (omega arith), below 3 n (omega arith), take-nil n)

pub twice_at_lem : (s : Store) → length s.cars ≡ 4
    → twice (cars_of s) ≡ twice_at s.count (place s.cars 0).car (place s.cars 1).car (place s.cars 2).car (place s.cars 3).car
twice_at_lem s e = rw (written_out s e) (twice_used s.count _ _ _ _)
