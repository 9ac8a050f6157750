-- A field of a record: document 01, "per phone a length byte and its bytes".
use Rattle.std.specs.Prelude.{cond, List, ℕ, ◌+◌, ◌-◌, ltb, length, get_or, Result, Ok, Err}
use Rattle.reader.specs.declared.Field.{Field}
use Rattle.reader.specs.declared.FieldError.{FieldError}
use Rattle.reader.specs.declared.FieldError.TheVariants.{Short, End}

-- n bytes from `start` on
abbrev pub field_of : ℕ → ℕ → Result Field FieldError
field_of start n = Ok (record { start = start; len = n; next = start + n })

-- the field at a place: none past the end; its length byte may announce more bytes than follow it
unfoldable pub field_at : List ℕ → ℕ → Result Field FieldError
field_at s at =
    cond (ltb at (length s))
    (cond (ltb (length s - (at + 1)) (get_or s at 0))
    (Err Short)
    (field_of (at + 1) (get_or s at 0)))
    (Err End)
