-- The room that a list of phones and the cars of a store take.
use Rattle.std.proofs.Common.{◌≡◌, List, [], ◌∷◌, map, ℕ, zero, suc, ◌*◌, le_of_eq, arith, lit≤, length, take, rules}
use mir.Val.{Val}
use denote.Array.{each}
use denote.Shadow.{shadow}
use Rattle.arrays.proofs.Laws.{long_map}
use Rattle.ascii.specs.Ascii.{ascii}
use Rattle.phones.specs.Phones.{phones_of}
use Rattle.phones.specs.declared.PhoneList.{PhoneList}
use Rattle.phones.specs.contracts.PhoneList as PhoneList
use Rattle.saved_record.specs.declared.CarPhones.{CarPhones}
use Rattle.saved_record.specs.declared.Store.{Store}
use Rattle.saved_record.specs.SavedRecord.{CarIds}
use Rattle.saved_record.specs.Store.{car_of, cars_of}
use Rattle.saved_record.specs.contracts.CarPhones as CarPhones
use Rattle.saved_record.specs.contracts.Store as Store
use Rattle.replay_cars.specs.Cars.{no_car, car, each_car, cars, lists}
use Rattle.replay_lines.specs.Parts.{ids_from}
use Rattle.replay_page.specs.Room.{Within}
use Rattle.replay_lines.proofs.AnswerRoom.{Owned}
use Rattle.replay_page.proofs.Room.{◌⊕◌, upto, same, text_in, bytes_in_lem, word_in}
use Rattle.replay_lines.proofs.Room.{phones_in}

list_in : (l : PhoneList) (vs : List Val) → Owned PhoneList.the_field l vs → Within 2080 (ids_from 0 (phones_of l))
list_in l vs h = phones_in l (le_of_eq (search rules)) (le_of_eq (search rules))

-- ---- the cars

car_in_lem : (c : CarPhones) (vs : List Val) → Owned CarPhones.the_field c vs → Within 2170 (car (car_of c))
unfolding car car_of
car_in_lem c vs h =
    text_in (ascii " validated_car=") ⊕ bytes_in_lem c.car 32 (le_of_eq (search rules)) ⊕ text_in (ascii " validated=")
    ⊕ list_in c.phones _ h.1.1.1.0

-- the first n of an array
each_in : (n : ℕ) (l : List CarPhones) (us : List Val) → shadow (each (CarPhones.the_row).Denot (CarPhones.the_row).own_val l us)
    → Within (length l * 2170) (each_car (map car_of (take n l)))
unfolding each_car
each_in zero l us h = same (length l * 2170)
each_in (suc n) [] us h = same 0
each_in (suc n) (c ∷ cs) [] h = absurd h
each_in (suc n) (c ∷ cs) (u ∷ us) h = upto (suc (length cs) * 2170) (omega arith) (car_in_lem c (u ∷ []) h.0 ⊕ each_in n cs us h.1)

no_car_in : Within 8680 no_car
unfolding no_car
no_car_in = upto 8680 (lit≤ tt) (word_in (ascii " validated_car=") (ascii "none") 4 (lit≤ tt) ⊕ text_in (ascii " validated="))

or_none_in : (cs : List CarIds) → Within 8680 (each_car cs) → Within 8680 (cars cs)
unfolding cars
or_none_in [] u = no_car_in
or_none_in (c ∷ cs) u = u

cars_in : (s : Store) (vs : List Val) → Owned Store.the_field s vs → Within 8680 (cars (cars_of s))
unfolding cars_of
cars_in s vs h =
    let many : length s.cars ≡ 4 = search (rules, long_map) in
    or_none_in (cars_of s) (upto 8680 (omega arith) (each_in s.count s.cars _ h.1.1.0.1.1))

pub lists_in_lem : (paired : PhoneList) (store : Store) (vs us : List Val) → Owned PhoneList.the_field paired vs → Owned Store.the_field store us
    → Within 10768 (lists (phones_of paired) (cars_of store))
unfolding lists
lists_in_lem paired store vs us h k = text_in (ascii " paired=") ⊕ list_in paired vs h ⊕ cars_in store us k
