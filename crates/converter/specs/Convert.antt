-- Records for older packs: document 02, W-208.
use Rattle.std.specs.Prelude.{Bool, true, false, cond, List, ◌∷◌, ℕ, ltb, length, Result, Ok, Err}
use Rattle.arrays.specs.Arrays.{put}
use Rattle.saved_record.specs.SavedRecord.{CarIds, car_parts, encoded, Reading, malformed, car_twice, too_large, ok, decoded}
use Rattle.saved_record.specs.declared.RecordError.{RecordError}
use Rattle.saved_record.specs.declared.RecordError.TheVariants as Record
use Rattle.converter.specs.declared.ConversionError.{ConversionError}
use Rattle.converter.specs.declared.ConversionError.TheVariants.{Malformed, CarTwice, TooLarge, ManyCars, ShortOutput}

-- "A yes picks target 2, a no target 1": version 1 is its byte and the part of the one car
unfoldable pub encoded_as : Bool → List CarIds → List ℕ
encoded_as true cs = encoded cs
encoded_as false cs = 1 ∷ car_parts cs

-- ---- what is given

-- the answer, which has the room that is needed, and the output afterwards
pub record Outcome : Type 0 where
  pub answer : Result ℕ ConversionError
  pub out : List ℕ

abbrev pub outcome_of : Result ℕ ConversionError → List ℕ → Outcome
outcome_of answer out = record { answer = answer; out = out }

-- "The room needed is reported with 30 too, and 0 with any other refusal"
abbrev pub room_of : Result ℕ ConversionError → ℕ
room_of (Ok room) = room
room_of (Err Malformed) = 0
room_of (Err CarTwice) = 0
room_of (Err TooLarge) = 0
room_of (Err ManyCars) = 0
room_of (Err (ShortOutput room)) = room

-- "The output is untouched by any of them"
unfoldable pub refusal : ConversionError → List ℕ → Outcome
refusal e out = outcome_of (Err e) out

-- "30 ShortOutput (the record does not fit)"; "Output bytes past the record keep what they held"
unfoldable pub laid_down : List ℕ → List ℕ → Outcome
laid_down r out =
    cond (ltb (length out) (length r)) (record { answer = Err (ShortOutput (length r)); out = out }) (record { answer = Ok (length r); out = put out 0 r })

-- "29 ManyCars (more than one car, target version 1)"
unfoldable pub many_cars : Bool → List CarIds → Bool
many_cars true cs = false
many_cars false cs = ltb 1 (length cs)

-- ---- the conversion

-- "22, 28 and 23 as on restore, then 29 .., then 30"
unfoldable pub converted_from : Reading → Bool → List ℕ → Outcome
converted_from malformed two out = refusal Malformed out
converted_from car_twice two out = refusal CarTwice out
converted_from too_large two out = refusal TooLarge out
converted_from (ok cs) two out = cond (many_cars two cs) (refusal ManyCars out) (laid_down (encoded_as two cs) out)

-- by what the record says, and not by its bytes
unfoldable pub converted : List ℕ → Bool → List ℕ → Outcome
converted saved two out = converted_from (decoded saved) two out

-- a refusal of restore, as one of the conversion
abbrev pub conversion_error : RecordError → ConversionError
conversion_error Record.Malformed = Malformed
conversion_error Record.CarTwice = CarTwice
conversion_error Record.TooLarge = TooLarge

-- the numbers of 01 and 02, and 0 for none
abbrev pub conversion_number : Result ℕ ConversionError → ℕ
conversion_number (Ok room) = 0
conversion_number (Err Malformed) = 22
conversion_number (Err CarTwice) = 28
conversion_number (Err TooLarge) = 23
conversion_number (Err ManyCars) = 29
conversion_number (Err (ShortOutput room)) = 30
