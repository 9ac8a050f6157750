-- RFC 3629, UTF-8: the octets of a character, and the characters of a string of octets.
use Rattle.std.specs.Prelude.{Bool, true, cond, ◌&&◌, ◌||◌, List, [], ◌∷◌, ◌++◌, ℕ, ◌+◌, ◌*◌, ◌/◌, ◌%◌, leb, eqb, Option, Some, None}

-- lo to hi, both included
unfoldable pub within : ℕ → ℕ → ℕ → Bool
within lo hi x = leb lo x && leb x hi

-- ---- section 3: from a character to its octets

-- a character number: 0 to 10FFFF, without the surrogates D800 to DFFF
unfoldable pub scalar : ℕ → Bool
scalar c = within 0 0xD7FF c || within 0xE000 0x10FFFF c

unfoldable pub scalars : List ℕ → Bool
scalars [] = true
scalars (c ∷ cs) = scalar c && scalars cs

-- the table: 0xxxxxxx; 110xxxxx 10xxxxxx; 1110xxxx and two of 10xxxxxx; 11110xxx and three
unfoldable pub encode : ℕ → List ℕ
encode c =
    cond (leb c 0x7F) (c ∷ [])
    (cond (leb c 0x7FF) ((0xC0 + c / 64) ∷ (0x80 + c % 64) ∷ [])
    (cond (leb c 0xFFFF) ((0xE0 + c / 4096) ∷ (0x80 + c / 64 % 64) ∷ (0x80 + c % 64) ∷ [])
    ((0xF0 + c / 262144) ∷ (0x80 + c / 4096 % 64) ∷ (0x80 + c / 64 % 64) ∷ (0x80 + c % 64) ∷ [])))

unfoldable pub encode_all : List ℕ → List ℕ
encode_all [] = []
encode_all (c ∷ cs) = encode c ++ encode_all cs

-- ---- section 4: from octets to characters

-- UTF8-tail, and the four forms of a character, as the grammar has them
abbrev pub utf8_tail : ℕ → Bool
utf8_tail a = within 0x80 0xBF a

abbrev pub utf8_1 : ℕ → Bool
utf8_1 a = leb a 0x7F

unfoldable pub utf8_2 : ℕ → ℕ → Bool
utf8_2 a b = within 0xC2 0xDF a && utf8_tail b

-- the first two octets of UTF8-3
unfoldable pub begins3 : ℕ → ℕ → Bool
begins3 a b =
    eqb a 0xE0 && within 0xA0 0xBF b
    || within 0xE1 0xEC a && utf8_tail b
    || eqb a 0xED && within 0x80 0x9F b
    || within 0xEE 0xEF a && utf8_tail b

unfoldable pub utf8_3 : ℕ → ℕ → ℕ → Bool
utf8_3 a b c = begins3 a b && utf8_tail c

-- the first two octets of UTF8-4
unfoldable pub begins4 : ℕ → ℕ → Bool
begins4 a b =
    eqb a 0xF0 && within 0x90 0xBF b
    || within 0xF1 0xF3 a && utf8_tail b
    || eqb a 0xF4 && within 0x80 0x8F b

unfoldable pub utf8_4 : ℕ → ℕ → ℕ → ℕ → Bool
utf8_4 a b c d = begins4 a b && utf8_tail c && utf8_tail d

-- the character numbers: the bits marked x of the octets
abbrev pub point2 : ℕ → ℕ → ℕ
point2 a b = a % 32 * 64 + b % 64

abbrev pub point3 : ℕ → ℕ → ℕ → ℕ
point3 a b c = a % 16 * 4096 + b % 64 * 64 + c % 64

abbrev pub point4 : ℕ → ℕ → ℕ → ℕ → ℕ
point4 a b c d = a % 8 * 262144 + b % 64 * 4096 + c % 64 * 64 + d % 64

-- a character in front of those that follow
abbrev pub before : ℕ → Option (List ℕ) → Option (List ℕ)
before c None = None
before c (Some cs) = Some (c ∷ cs)

-- UTF8-octets: the characters, one after the other; none if some octets are no character.
-- decode2, decode3 and decode4 go on after one, two and three octets that are no character by themselves
unfoldable mutual
  pub decode : List ℕ → Option (List ℕ)
  decode [] = Some []
  decode (a ∷ s) = cond (utf8_1 a) (before a (decode s)) (decode2 a s)

  pub decode2 : ℕ → List ℕ → Option (List ℕ)
  decode2 a [] = None
  decode2 a (b ∷ s) = cond (utf8_2 a b) (before (point2 a b) (decode s)) (decode3 a b s)

  pub decode3 : ℕ → ℕ → List ℕ → Option (List ℕ)
  decode3 a b [] = None
  decode3 a b (c ∷ s) = cond (utf8_3 a b c) (before (point3 a b c) (decode s)) (decode4 a b c s)

  pub decode4 : ℕ → ℕ → ℕ → List ℕ → Option (List ℕ)
  decode4 a b c [] = None
  decode4 a b c (d ∷ s) = cond (utf8_4 a b c d) (before (point4 a b c d) (decode s)) None
