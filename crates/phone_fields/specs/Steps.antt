-- What the private functions of the code give.
use Rattle.std.specs.Prelude.{◌≡◌, ◌<◌, ◌+◌, Option, None, Some, List, ℕ, suc, ◌-◌, length}
use denote.Ref.{Bor}
use Rattle.phone_fields.specs.declared.FieldsError.{FieldsError}
use Rattle.phone_fields.specs.declared.FieldsError.TheVariants.{Malformed, TooLarge}
use Rattle.phone_fields.specs.PhoneFields.{PhonesRead, not_whole, whole, before, read_fields}

-- what remains begins with no whole phone, or with this one, of some bytes, and these follow it
abbrev pub ReadsFirst : List ℕ → Option (Bor (List ℕ) × Bor (List ℕ)) → Type 0
ReadsFirst s None = (left : ℕ) → read_fields (suc left) s ≡ not_whole
ReadsFirst s (Some p) = ((left : ℕ) → read_fields (suc left) s ≡ before p.0.now (read_fields left p.1.now)) × (length p.0.now < 256) × (length p.0.now + length p.1.now < length s)

-- the answer where a limit is passed already
abbrev pub only_checked : ℕ → PhonesRead → FieldsError
only_checked n not_whole = Malformed
only_checked n (whole ps rest) = TooLarge (n - length rest)
