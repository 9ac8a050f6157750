-- How ids lie in memory, and nothing else knows it: `phones_of` reads a list, `list_of` is the canonical list of some ids, `laid`
-- leaves a list as it lies or lays it anew. What stands past a count or a length is not looked at, and reading ends with the
-- array.
use Rattle.std.specs.Prelude.{◌≡◌, ◌<◌, Bool, false, cond, not, Option, None, Some, List, [], ◌∷◌, map, ℕ, ltb, length, take, drop}
use denote.Ref.{Bor}
use Rattle.arrays.specs.Arrays.{padded}
use Rattle.phones.specs.declared.ShortId.{ShortId}
use Rattle.phones.specs.declared.PhoneList.{PhoneList}
use Rattle.phones.specs.declared.PackedIds.{PackedIds}
use Rattle.phones.specs.Ids.{some_of, joined, Left, stays, becomes}

-- ---- an id by itself

-- the bytes in use
unfoldable pub id_bytes : ShortId → List ℕ
id_bytes p = take p.len p.bytes

-- a byte string as an id: zeros past its length
unfoldable pub id_of : List ℕ → ShortId
id_of s = record { bytes = padded 32 0 s; len = length s }

-- a byte string above 32 bytes is no id (01: 18 IdTooLong)
unfoldable pub made_id : List ℕ → Option ShortId
made_id s = cond (ltb 32 (length s)) None (Some (id_of s))

unfoldable pub too_long : ShortId → Bool
too_long p = ltb 32 p.len

unfoldable pub id_in_range : ShortId → Bool
id_in_range p = not (too_long p)

-- ---- a list

-- ids of these lengths, end to end
unfoldable pub ids_in : List ℕ → List ℕ → List (List ℕ)
ids_in [] b = []
ids_in (n ∷ ns) b = take n b ∷ ids_in ns (drop n b)

-- those that are still to come
abbrev pub ids_left : PackedIds → List (List ℕ)
ids_left p = ids_in p.lens.now p.bytes.now

-- the next of them is given, or none is left, now or later; its length fits a byte
abbrev pub GivesId : PackedIds → Option (Bor (List ℕ)) → PackedIds → Type 0
GivesId old None new = (ids_left old ≡ []) × (ids_left new ≡ [])
GivesId old (Some id) new = (ids_left old ≡ id.now ∷ ids_left new) × (length id.now < 256)

-- the ids that a list holds, in their order
unfoldable pub phones_of : PhoneList → List (List ℕ)
phones_of l = ids_in (take l.count l.lens) l.bytes

-- the canonical list of these ids: zeros past them
unfoldable pub list_of : List (List ℕ) → PhoneList
list_of ps = record { bytes = padded 1024 0 (joined ps); lens = padded 32 0 (map length ps); count = length ps }

-- the count, and each length in use (01: 25 BadSettings)
unfoldable pub list_in_range : PhoneList → Bool
list_in_range l = cond (ltb 32 l.count) false (not (some_of (ltb 32) (take l.count l.lens)))

-- a list that no id comes to or leaves stays as it lies, past its count too; any other is laid canonically
abbrev pub laid : PhoneList → Left (List (List ℕ)) → PhoneList
laid l stays = l
laid l (becomes ps) = list_of ps
