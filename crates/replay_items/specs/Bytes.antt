-- Byte values: what the items say, and where they lie in lent memory.
use Rattle.std.specs.Prelude.{◌≡◌, Bool, false, cond, List, [], ◌∷◌, ◌++◌, ℕ, ◌+◌, ltb, length}
use Rattle.arrays.specs.Arrays.{put}
use Rattle.ascii.specs.Ascii.{ascii}
use Rattle.replay_script.specs.Places.{item_of}
use Rattle.replay_digits.specs.Digits.{is_bytes, as_bytes}
use Rattle.replay_script.specs.Words.{part}
use Rattle.replay_digits.specs.declared.Written.{Written}
use Rattle.replay_digits.specs.declared.Written.TheVariants.{Hex, HexOrText}
use Rattle.replay_items.specs.declared.Ends.{Ends}
use Rattle.replay_items.specs.declared.Has.{Has}
use Rattle.replay_items.specs.declared.LaidValue.{LaidValue}
use Rattle.replay_items.specs.declared.LaidValues.{LaidValues}

-- ---- what the items say

abbrev pub are_bytes : Written → List (List ℕ) → Bool
are_bytes form [] = false
are_bytes form (v ∷ vs) = is_bytes form v

abbrev pub bytes_in : Written → List (List ℕ) → List ℕ
bytes_in form [] = []
bytes_in form (v ∷ vs) = cond (is_bytes form v) (as_bytes form v) []

-- whether the only item with this key is bytes, and the bytes
unfoldable pub has_bytes : Written → List ℕ → List ℕ → Bool
has_bytes form key line = are_bytes form (item_of key line)

unfoldable pub bytes_at : Written → List ℕ → List ℕ → List ℕ
bytes_at form key line = bytes_in form (item_of key line)

-- a phone's id, which `owner` has too, a method's id and a typed code may be text
unfoldable pub has_at : List ℕ → Has
has_at line = record {
  phone = has_bytes HexOrText (ascii "phone") line;
  method = has_bytes HexOrText (ascii "method") line;
  random = has_bytes Hex (ascii "random") line;
  code = has_bytes HexOrText (ascii "code") line;
  stored = has_bytes Hex (ascii "record") line;
  fingerprint = has_bytes Hex (ascii "fingerprint") line;
  owner = has_bytes HexOrText (ascii "owner") line;
  output = has_bytes Hex (ascii "output") line;
}

-- the byte values of a line
pub record Bytes : Type 0 where
  pub phone : List ℕ
  pub method : List ℕ
  pub random : List ℕ
  pub code : List ℕ
  pub stored : List ℕ
  pub fingerprint : List ℕ
  pub owner : List ℕ
  pub output : List ℕ

unfoldable pub bytes_of : List ℕ → Bytes
bytes_of line = record {
  phone = bytes_at HexOrText (ascii "phone") line;
  method = bytes_at HexOrText (ascii "method") line;
  random = bytes_at Hex (ascii "random") line;
  code = bytes_at HexOrText (ascii "code") line;
  stored = bytes_at Hex (ascii "record") line;
  fingerprint = bytes_at Hex (ascii "fingerprint") line;
  owner = bytes_at HexOrText (ascii "owner") line;
  output = bytes_at Hex (ascii "output") line;
}

-- ---- where they lie

-- the bytes of memory from a to before e; none if it has no such part
unfoldable pub lent_at : ℕ → ℕ → List ℕ → List ℕ
lent_at a e room = cond (ltb (length room) e) [] (cond (ltb e a) [] (part a e room))

unfoldable pub lent_bytes : Ends → List ℕ → Bytes
lent_bytes p room = record {
  phone = lent_at 0 p.phone room;
  method = lent_at p.phone p.method room;
  random = lent_at p.method p.random room;
  code = lent_at p.random p.code room;
  stored = lent_at p.code p.stored room;
  fingerprint = lent_at p.stored p.fingerprint room;
  owner = lent_at p.fingerprint p.owner room;
  output = lent_at p.owner p.output room;
}

-- the byte values one behind the other
unfoldable pub joined : Bytes → List ℕ
joined b = b.phone ++ b.method ++ b.random ++ b.code ++ b.stored ++ b.fingerprint ++ b.owner ++ b.output

-- where each ends then
unfoldable pub ends_of : Bytes → Ends
ends_of b = record {
  phone = length b.phone;
  method = length (b.phone ++ b.method);
  random = length (b.phone ++ b.method ++ b.random);
  code = length (b.phone ++ b.method ++ b.random ++ b.code);
  stored = length (b.phone ++ b.method ++ b.random ++ b.code ++ b.stored);
  fingerprint = length (b.phone ++ b.method ++ b.random ++ b.code ++ b.stored ++ b.fingerprint);
  owner = length (b.phone ++ b.method ++ b.random ++ b.code ++ b.stored ++ b.fingerprint ++ b.owner);
  output = length (joined b);
}

-- one value laid down in memory from a place on
pub record LaidAt (form : Written) (key line before after : List ℕ) (at : ℕ) (r : LaidValue) : Type 0 where
  pub has : r.ok ≡ has_bytes form key line
  pub end : r.end ≡ at + length (bytes_at form key line)
  pub memory : after ≡ put before at (bytes_at form key line)

-- all of them, from the start of the memory on; `bytes` follows from where they end and from the memory
pub record LaidAll (line before after : List ℕ) (r : LaidValues) : Type 0 where
  pub has : r.has ≡ has_at line
  pub ends : r.ends ≡ ends_of (bytes_of line)
  pub bytes : lent_bytes r.ends after ≡ bytes_of line
  pub memory : after ≡ put before 0 (joined (bytes_of line))
