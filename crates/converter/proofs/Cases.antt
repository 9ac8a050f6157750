-- Examples, by the record of P12, 37 bytes of version 1.
use mathlib.Core.Path.{◌≡◌, refl}
use mathlib.Core.Bool.{true, false}
use mathlib.Core.List.{List, [], ◌∷◌, ◌++◌}
use Prim.Native.Nat.{ℕ}
use lib.ListN.{replicate}
use Rattle.arrays.specs.Arrays.{put, same_bytes}
use Rattle.phones.specs.Ids.{some_of}
use Rattle.phone_fields.specs.PhoneFields.{field, fields, before, read_fields, any_long, over_limits}
use Rattle.saved_record.specs.SavedRecord.{car_part, car_parts, encoded, of_car, read_counted, read_after, read_car, read_on, read_cars, read_two, read_version, nothing_after, has_car, twice, over, judged, decoded}
use Rattle.saved_record.proofs.Cases.{car, the_record, p12}
use Rattle.std.specs.Prelude.{Ok, Err}
use Rattle.converter.specs.declared.ConversionError.TheVariants.{TooLarge, ManyCars, ShortOutput}
use Rattle.converter.specs.Convert.{encoded_as, refusal, laid_down, many_cars, converted_from, converted}

-- as version 2 it has one byte more; a byte past it stays
pub exactly : converted the_record true (replicate 38 0 ++ (7 ∷ []))
    ≡ record { answer = Ok 38; out = (0x02 ∷ 0x01 ∷ car ++ (0x01 ∷ 0x02 ∷ 0xA1 ∷ 0xB2 ∷ [])) ++ (7 ∷ []) }
unfolding put field fields car_part car_parts encoded encoded_as laid_down many_cars converted_from converted
exactly = rw p12

pub one_short : converted the_record true (replicate 37 0) ≡ record { answer = Err (ShortOutput 38); out = replicate 37 0 }
unfolding field fields car_part car_parts encoded encoded_as laid_down many_cars converted_from converted
one_short = rw p12

-- two cars, and under the second an id of so many bytes
abbrev two_cars_lem : List ℕ → List ℕ
two_cars_lem id = 0x02 ∷ 0x02 ∷ car ++ (0x01 ∷ 0x01 ∷ 0xA1 ∷ []) ++ replicate 32 0x22 ++ (0x01 ∷ []) ++ id

pub many : (out : List ℕ) → converted (two_cars_lem (0x01 ∷ 0xB2 ∷ [])) false out ≡ record { answer = Err ManyCars; out = out }
unfolding before read_fields any_long over_limits of_car read_counted read_after read_car read_on read_cars read_two read_version nothing_after same_bytes some_of has_car twice over judged decoded refusal many_cars converted_from converted
many out = refl

-- 23 comes before 29
pub large_before_many : (out : List ℕ) → converted (two_cars_lem (33 ∷ replicate 33 0xB2)) false out ≡ record { answer = Err TooLarge; out = out }
unfolding before read_fields any_long over_limits of_car read_counted read_after read_car read_on read_cars read_two read_version nothing_after same_bytes some_of has_car twice over judged decoded refusal converted_from converted
large_before_many out = refl
