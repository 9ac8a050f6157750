-- A hash in progress: a message that is taken in piece by piece.
use Rattle.std.specs.Prelude.{◌≡◌, ℕ, ◌+◌, ◌*◌, ◌/◌, ◌≤◌, List, [], ◌++◌, length, take, drop}
use Rattle.sha256.specs.Sha256.{H₀, hash_from, finished, sha256}

-- the hash value so far, the bytes that are not yet in a block, fewer than 64, and the number of bytes in all
pub record Progress : Type 0 where
  pub value : List ℕ
  pub rest : List ℕ
  pub total : ℕ

-- before the first piece
unfoldable pub opened : Progress
opened = record { value = H₀; rest = []; total = 0 }

-- after one piece more: the whole blocks of the rest and the piece are hashed, and what is left of the two is the rest
unfoldable pub absorbed : Progress → List ℕ → Progress
absorbed o piece =
    let s = o.rest ++ piece in
    let i = length s / 64 in
    record { value = hash_from o.value s i; rest = drop (64 * i) s; total = o.total + length piece }

-- the message digest after the last piece
unfoldable pub closed : Progress → List ℕ
closed o = finished o.value o.rest o.total

-- two pieces, one after the other, give the digest of the two together
abbrev pub TwoPieces : Type 0
TwoPieces = (a b : List ℕ) → closed (absorbed (absorbed opened a) b) ≡ sha256 (a ++ b)

-- 02, W-205: a message of up to 4,126 bytes, cut in two anywhere, gives the digest of the whole
abbrev pub CutAnywhere : Type 0
CutAnywhere = (m : List ℕ) (i : ℕ) → length m ≤ 4126 → i ≤ length m → closed (absorbed (absorbed opened (take i m)) (drop i m)) ≡ sha256 m
