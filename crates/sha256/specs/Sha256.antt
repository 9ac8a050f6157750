-- SHA-256, as FIPS 180-4 defines it, with the paper's section numbers; one block of it is sha256_block/specs/Block.antt.
-- A word is a number below 2 ^ 32 and a byte one below 2 ^ 8. A list is in the order of its indices, from 0.
use Rattle.std.specs.Prelude.{ℕ, zero, suc, ◌+◌, ◌-◌, ◌*◌, ◌/◌, ◌%◌, ◌^◌, List, [], ◌∷◌, ◌++◌, length, replicate}
use Rattle.sha256_block.specs.Block.{M, W, rounds, plus}

-- ---- 5.1.1: padding. A message of l bits is followed by a bit 1, by k bits 0 and by l in 64 bits, where k is the smallest number
-- for which l + 1 + k is 448 modulo 512

abbrev pub k : ℕ → ℕ
k l = (448 + 512 - (l + 1) % 512) % 512

-- a number modulo 2 ^ 32 in 4 bytes, the most significant first
abbrev pub bytes4 : ℕ → List ℕ
bytes4 x = x / 2 ^ 24 % 256 ∷ x / 2 ^ 16 % 256 ∷ x / 2 ^ 8 % 256 ∷ x % 256 ∷ []

-- a number modulo 2 ^ 64 in 8 bytes. The paper has l below 2 ^ 64, so a message below 2 ^ 61 bytes
abbrev pub bytes8 : ℕ → List ℕ
bytes8 x = bytes4 (x / 2 ^ 32) ++ bytes4 x

-- m padded as the end of a message of n bytes, in which whole blocks, or nothing, stand before m. The bit 1 and the first seven of
-- the k bits 0 are the byte 0x80
unfoldable pub pad_last : List ℕ → ℕ → List ℕ
pad_last m n = m ++ (0x80 ∷ []) ++ replicate (k (8 * length m) / 8) 0 ++ bytes8 (8 * n)

-- the padded message
abbrev pub pad : List ℕ → List ℕ
pad m = pad_last m (length m)

-- how many blocks, of 512 bits, the padded message of n bytes has
abbrev pub block_count : ℕ → ℕ
block_count n = (8 * n + 1 + k (8 * n) + 64) / 512

-- ---- 5.3.3: the initial hash value

abbrev pub H₀ : List ℕ
H₀ = 0x6a09_e667 ∷ 0xbb67_ae85 ∷ 0x3c6e_f372 ∷ 0xa54f_f53a ∷ 0x510e_527f ∷ 0x9b05_688c ∷ 0x1f83_d9ab ∷ 0x5be0_cd19 ∷ []

-- ---- 6.2.2: computation

-- the hash value after i blocks of p, from the hash value h
unfoldable pub hash_from : List ℕ → List ℕ → ℕ → List ℕ
hash_from h p zero = h
hash_from h p (suc i) = let g = hash_from h p i in plus (rounds (W (M p i) 64) g 64) g

-- the hash value after i blocks of the padded message p
abbrev pub H : List ℕ → ℕ → List ℕ
H p i = hash_from H₀ p i

-- the bytes of a list of words
abbrev pub bytes : List ℕ → List ℕ
bytes [] = []
bytes (x ∷ xs) = bytes4 x ++ bytes xs

-- the message digest
unfoldable pub sha256 : List ℕ → List ℕ
sha256 m = let p = pad m in bytes (H p (length p / 64))

-- ---- a message in pieces

-- the message digest where the hash value so far is h, `rest` is left, and the message has n bytes in all
unfoldable pub finished : List ℕ → List ℕ → ℕ → List ℕ
finished h rest n = let p = pad_last rest n in bytes (hash_from h p (length p / 64))
