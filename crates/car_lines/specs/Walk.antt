-- What the functions of the code give: what was written where, and the ids that a reader meets.
use Rattle.std.specs.Prelude.{◌≡◌, List, [], ◌∷◌, ◌++◌, ℕ, zero, suc, ◌+◌, length, take, drop, Result, Ok, Err}
use Rattle.arrays.specs.Arrays.{put}
use Rattle.reader.specs.declared.Field.{Field}
use Rattle.reader.specs.declared.FieldError.{FieldError}
use Rattle.reader.specs.Reader.{field_at}
use Rattle.car_lines.specs.declared.Places.{Places}

-- `before` became `after` as text was written from `at` on, and `end` is the place after it
pub record Wrote (before : List ℕ) (at : ℕ) (text after : List ℕ) (end : ℕ) : Type 0 where
  pub bytes : after ≡ put before at text
  pub place : end ≡ at + length text

-- the same, and `next` is the place after what was read
pub record WroteFrom (before : List ℕ) (at : ℕ) (text after : List ℕ) (next : ℕ) (r : Places) : Type 0 where
  pub wrote : Wrote before at text after r.end
  pub read : r.next ≡ next

-- these bytes stand in s from `at` on
abbrev pub Stands : List ℕ → ℕ → List ℕ → Type 0
Stands s at x = drop at s ≡ x ++ drop (at + length x) s

-- the bytes of a field, and those of the fields after it
abbrev pub with_field : List ℕ → Result Field FieldError → (ℕ → List (List ℕ)) → List (List ℕ)
with_field s (Ok f) rest = take f.len (drop f.start s) ∷ rest f.next
with_field s (Err e) rest = []

-- the ids that a reader meets from `at` on, at most n of them
unfoldable pub ids_from : ℕ → List ℕ → ℕ → List (List ℕ)
ids_from zero s at = []
ids_from (suc n) s at = with_field s (field_at s at) (ids_from n s)

-- the place after a field, and after the fields that follow it; none is passed that is not whole
abbrev pub after_field : ℕ → Result Field FieldError → (ℕ → ℕ) → ℕ
after_field at (Ok f) rest = rest f.next
after_field at (Err e) rest = at

-- the place after the ids that a reader meets from `at` on, at most n of them
unfoldable pub place_from : ℕ → List ℕ → ℕ → ℕ
place_from zero s at = at
place_from (suc n) s at = after_field at (field_at s at) (place_from n s)
