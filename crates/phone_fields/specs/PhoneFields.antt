-- The phones of a saved record, one behind the other: document 01, "Lists and the saved record" and "Restore". A phone is its
-- id's bytes.
use Rattle.std.specs.Prelude.{Bool, true, false, cond, Result, Ok, Err, List, [], ◌∷◌, ◌++◌, ℕ, zero, suc, ◌-◌, eqb, ltb, length, take, drop}
use Rattle.phones.specs.Phones.{list_of}
use Rattle.phone_fields.specs.declared.FieldsError.{FieldsError}
use Rattle.phone_fields.specs.declared.FieldsError.TheVariants.{Malformed, TooLarge}
use Rattle.phone_fields.specs.declared.FieldsRead.{FieldsRead}

-- ---- writing

-- "per phone a length byte and its bytes"
unfoldable pub field : List ℕ → List ℕ
field p = length p ∷ p

unfoldable pub fields : List (List ℕ) → List ℕ
fields [] = []
fields (p ∷ ps) = field p ++ fields ps

-- ---- reading

-- what is read is not whole, or is this, and this remains of the record after it
pub data Read (A : Type 0) : Type 0 where
  not_whole : Read A
  whole : A → List ℕ → Read A

-- one in front of those that were read after it
unfoldable pub before : {A : Type 0} → A → Read (List A) → Read (List A)
before x not_whole = not_whole
before x (whole xs rest) = whole (x ∷ xs) rest

-- some phones
abbrev pub PhonesRead : Type 0
PhonesRead = Read (List (List ℕ))

-- "each phone is read from what remains of the record"; refused are "zero length" and "a short" part
unfoldable pub read_fields : ℕ → List ℕ → PhonesRead
read_fields zero rest = whole [] rest
read_fields (suc left) [] = not_whole
read_fields (suc left) (n ∷ rest) =
    cond (eqb n 0) not_whole
    (cond (ltb (length rest) n) not_whole
    (before (take n rest) (read_fields left (drop n rest))))

-- an id over 32 bytes
unfoldable pub any_long : List (List ℕ) → Bool
any_long [] = false
any_long (p ∷ ps) = cond (ltb 32 (length p)) true (any_long ps)

-- "over 32 phones or an id over 32 bytes"
unfoldable pub over_limits : List (List ℕ) → Bool
over_limits ps = cond (ltb 32 (length ps)) true (any_long ps)

-- ---- what the answer holds

-- of n bytes those are used that do not remain
unfoldable pub fields_read : ℕ → PhonesRead → Result FieldsRead FieldsError
fields_read n not_whole = Err Malformed
fields_read n (whole ps rest) = cond (over_limits ps) (Err (TooLarge (n - length rest))) (Ok (record { phones = list_of ps; used = n - length rest }))
