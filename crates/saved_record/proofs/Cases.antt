-- P12 and P13 of document 01, and that 28 comes before 23.
use mathlib.Core.Path.{◌≡◌, refl}
use mathlib.Core.List.{List, [], ◌∷◌, ◌++◌}
use Prim.Native.Nat.{ℕ}
use lib.ListN.{replicate}
use Rattle.arrays.specs.Arrays.{same_bytes}
use Rattle.phones.specs.Ids.{some_of}
use Rattle.phone_fields.specs.PhoneFields.{before, read_fields, any_long, over_limits}
use Rattle.saved_record.specs.SavedRecord.{malformed, car_twice, ok, of_car, read_counted, read_after, read_car, read_on, read_cars, read_two, read_version, nothing_after, has_car, twice, over, judged, decoded, record_number}
use Rattle.saved_record.specs.Store.{restored}

abbrev pub car : List ℕ
car = replicate 32 0x11

abbrev pub the_record : List ℕ
the_record = 0x01 ∷ car ++ (0x01 ∷ 0x02 ∷ 0xA1 ∷ 0xB2 ∷ [])

pub p12 : decoded the_record ≡ ok (record { car = car; phones = (0xA1 ∷ 0xB2 ∷ []) ∷ [] } ∷ [])
unfolding before read_fields any_long over_limits of_car read_counted read_after read_car read_on read_cars read_version nothing_after some_of has_car twice over judged decoded
p12 = refl

pub p13 : (x : ℕ) → decoded (the_record ++ (x ∷ [])) ≡ malformed
unfolding before read_fields of_car read_counted read_after read_car read_on read_cars read_version nothing_after judged decoded
p13 x = refl

pub p13_number : (x : ℕ) → record_number (restored (decoded (the_record ++ (x ∷ [])))) ≡ 22
unfolding restored
p13_number x = rw (p13 x)

-- one digest under two cars, the first of which has an id of 33 bytes
pub twice_before_large : decoded (0x02 ∷ 0x02 ∷ car ++ (0x01 ∷ 33 ∷ replicate 33 0xA1) ++ car ++ (0x01 ∷ 0x01 ∷ 0xB2 ∷ [])) ≡ car_twice
unfolding before read_fields any_long over_limits of_car read_counted read_after read_car read_on read_cars read_two read_version nothing_after same_bytes some_of has_car twice over judged decoded
twice_before_large = refl
