-- What the private functions of the code ask for.
use Rattle.std.specs.Prelude.{◌≡◌, List, ℕ, length}
use Rattle.saved_record.specs.SavedRecord.{CarIds, ok, decoded}

-- restore accepts the record, as so many cars
unfoldable pub Accepted : List ℕ → ℕ → Type 0
Accepted r n = (cs : List CarIds) × (decoded r ≡ ok cs) × (n ≡ length cs)
