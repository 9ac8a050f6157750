-- What a right code looks like (document 02, W-202), said without how it is read. proofs/Spaced.antt proves it of `right`.
use Rattle.std.specs.Prelude.{◌≡◌, true, List, [], ◌∷◌, ◌++◌, ◌↔◌, ℕ, ◌≤◌, ◌<◌, take, get_or}
use Rattle.text.specs.Text.{is_text, trimmed, right}

-- between two neighbours: nothing, one byte 32 or one byte 45
pub data Gap : List ℕ → Type 0 where
  nothing : Gap []
  blank : Gap (32 ∷ [])
  hyphen : Gap (45 ∷ [])

-- the second list is the first in order, with a gap between each two neighbours
pub data Spaced : List ℕ → List ℕ → Type 0 where
  empty : Spaced [] []
  last : (d : ℕ) → Spaced (d ∷ []) (d ∷ [])
  next : (d e : ℕ) (ds gap s : List ℕ) → Gap gap → Spaced (e ∷ ds) s → Spaced (d ∷ e ∷ ds) (d ∷ gap ++ s)

-- a code of n digits: each of its first n bytes is 48 to 57
abbrev pub Digits : ℕ → List ℕ → Type 0
Digits n code = (i : ℕ) → i < n → (48 ≤ get_or code i 0) × (get_or code i 0 ≤ 57)

-- typed is right exactly if it is text whose trimmed form is the n digits, so spaced
abbrev pub SpacedRight : Type 0
SpacedRight =
    (n : ℕ) (code typed : List ℕ) → Digits n code
    → right code n typed ≡ true ↔ (is_text typed ≡ true) × Spaced (take n code) (trimmed typed)
