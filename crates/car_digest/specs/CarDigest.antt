-- The car digest of document 01, "Lists and the saved record", and of `car_digest` in can_access.rs.
use Rattle.std.specs.Prelude.{cond, Option, Some, None, List, [], ◌∷◌, ◌++◌, ℕ, ◌/◌, ◌%◌, ◌^◌, ltb, length}
use Rattle.sha256.specs.Sha256.{sha256}

-- the 26 bytes opencar/can-rw-approval/v1: a line for opencar/, one for can-rw-, one for approval/ and one for v1
unfoldable pub domain : List ℕ
domain =
    111 ∷ 112 ∷ 101 ∷ 110 ∷ 99 ∷ 97 ∷ 114 ∷ 47 ∷
    99 ∷ 97 ∷ 110 ∷ 45 ∷ 114 ∷ 119 ∷ 45 ∷
    97 ∷ 112 ∷ 112 ∷ 114 ∷ 111 ∷ 118 ∷ 97 ∷ 108 ∷ 47 ∷
    118 ∷ 49 ∷ []

-- a number as 4 little-endian bytes
abbrev pub little4 : ℕ → List ℕ
little4 n = n % 256 ∷ n / 2 ^ 8 % 256 ∷ n / 2 ^ 16 % 256 ∷ n / 2 ^ 24 % 256 ∷ []

-- the digest opens with those bytes, then the platform number as 4 little-endian bytes, then the fingerprint
unfoldable pub car_message : ℕ → List ℕ → List ℕ
car_message platform fingerprint = domain ++ little4 platform ++ fingerprint

-- the digest of that message; a fingerprint above 4,096 bytes has none
unfoldable pub car_digest : ℕ → List ℕ → Option (List ℕ)
car_digest platform fingerprint = cond (ltb 4096 (length fingerprint)) None (Some (sha256 (car_message platform fingerprint)))
