-- The saved record of the validated phones: document 01, "Lists and the saved record" and "Restore", and document 02, W-207;
-- `encode_phone_validations` and `decode_phone_validations` of phone_trust.rs. A car is its digest, a phone its id's bytes.
use Rattle.std.specs.Prelude.{Bool, true, false, cond, List, [], ◌∷◌, ◌++◌, ℕ, zero, suc, eqb, ltb, length, take, drop, Result, Ok, Err}
use Rattle.std.proofs.Math.Option.{Option, none, some}
use Rattle.arrays.specs.Arrays.{padded, same_bytes}
use Rattle.phones.specs.Ids.{some_of}
use Rattle.phone_fields.specs.PhoneFields.{fields, Read, not_whole, whole, before, PhonesRead, read_fields, over_limits}
use Rattle.saved_record.specs.declared.SavedRecord.{SavedRecord}
use Rattle.saved_record.specs.declared.RecordError.{RecordError}
use Rattle.saved_record.specs.declared.RecordError.TheVariants.{Malformed, CarTwice, TooLarge}

-- a car and the phones that are validated for it; a store is a list of them, "in order of first validation"
pub record CarIds : Type 0 where
  pub car : List ℕ
  pub phones : List (List ℕ)

-- ---- writing

-- "per car the digest, a phone count and the phones as in version 1"
unfoldable pub car_part : CarIds → List ℕ
car_part c = c.car ++ (length c.phones ∷ fields c.phones)

unfoldable pub car_parts : List CarIds → List ℕ
car_parts [] = []
car_parts (c ∷ cs) = car_part c ++ car_parts cs

-- "byte 2, car count .., then per car" its part; "an empty store writes zero bytes"
unfoldable pub encoded : List CarIds → List ℕ
encoded [] = []
encoded (c ∷ cs) = 2 ∷ length (c ∷ cs) ∷ car_parts (c ∷ cs)

-- "returned by value with its length", zeros past it
unfoldable pub record_of : List ℕ → SavedRecord
record_of r = record { bytes = padded 4358 0 r; len = length r }

-- zero bytes
unfoldable pub no_record : SavedRecord
no_record = record_of []

-- ---- reading

-- the phones of this car
unfoldable pub of_car : List ℕ → PhonesRead → Read CarIds
of_car car not_whole = not_whole
of_car car (whole ps rest) = whole (record { car = car; phones = ps }) rest

-- refused: "zero phones"
unfoldable pub read_counted : List ℕ → ℕ → List ℕ → Read CarIds
read_counted car zero rest = not_whole
read_counted car (suc n) rest = of_car car (read_fields (suc n) rest)

-- a digest, and what stands after it; where nothing does, the part is short
unfoldable pub read_after : List ℕ → List ℕ → Read CarIds
read_after car [] = not_whole
read_after car (count ∷ rest) = read_counted car count rest

-- a car's part at the front of what remains of the record
unfoldable pub read_car : List ℕ → Read CarIds
read_car rest = read_after (take 32 rest) (drop 32 rest)

-- one that was read, and then the others, from what remains after it
unfoldable pub read_on : {A : Type 0} → Read A → (List ℕ → Read (List A)) → Read (List A)
read_on not_whole others = not_whole
read_on (whole x rest) others = before x (others rest)

-- so many cars
unfoldable pub read_cars : ℕ → List ℕ → Read (List CarIds)
read_cars zero rest = whole [] rest
read_cars (suc left) rest = read_on (read_car rest) (read_cars left)

-- "car count 1 to 4 ..; another car count gives 22"
unfoldable pub read_two : List ℕ → Read (List CarIds)
read_two [] = not_whole
read_two (n ∷ rest) = cond (eqb n 0) not_whole (cond (ltb 4 n) not_whole (read_cars n rest))

-- "Version 1 is still read": after its byte stands the part of one car. Another version than 1 and 2 is refused, and so are
-- zero bytes
unfoldable pub read_version : List ℕ → Read (List CarIds)
read_version [] = not_whole
read_version (version ∷ rest) = cond (eqb version 1) (read_cars 1 rest) (cond (eqb version 2) (read_two rest) not_whole)

-- refused: a "trailing part"
unfoldable pub nothing_after : Read (List CarIds) → Option (List CarIds)
nothing_after not_whole = none
nothing_after (whole cs []) = some cs
nothing_after (whole cs (x ∷ rest)) = none

-- ---- what a record says

-- one of the cars has this digest
unfoldable pub has_car : List ℕ → List CarIds → Bool
has_car car cs = some_of (λ (c : CarIds). same_bytes c.car car) cs

-- "a digest occurs again"
unfoldable pub twice : List CarIds → Bool
twice [] = false
twice (c ∷ cs) = cond (has_car c.car cs) true (twice cs)

-- "over 32 phones or an id over 32 bytes", under some car
unfoldable pub over : List CarIds → Bool
over cs = some_of (λ (c : CarIds). over_limits c.phones) cs

pub data Reading : Type 0 where
  malformed : Reading
  car_twice : Reading
  too_large : Reading
  ok : List CarIds → Reading

-- 22 Malformed; "28 CarTwice .. after 22 and before 23"; 23 TooLarge "if well formed but with" too much in it
unfoldable pub judged : Option (List CarIds) → Reading
judged none = malformed
judged (some cs) = cond (twice cs) car_twice (cond (over cs) too_large (ok cs))

unfoldable pub decoded : List ℕ → Reading
decoded r = judged (nothing_after (read_version r))

-- the port's numbers of the refusals, and 0 for none
abbrev pub record_number : {A : Type 0} → Result A RecordError → ℕ
record_number (Ok x) = 0
record_number (Err Malformed) = 22
record_number (Err CarTwice) = 28
record_number (Err TooLarge) = 23
