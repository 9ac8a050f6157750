-- What holds of the conversion.
use Rattle.std.specs.Prelude.{◌≡◌, Bool, true, false, List, [], ◌∷◌, ℕ, ◌<◌, eqb, take, get_or, IsErr}
use Rattle.saved_record.specs.SavedRecord.{CarIds, ok, decoded}
use Rattle.converter.specs.Convert.{laid_down, converted}

-- r is converted to r': no refusal but 30, and that exactly where r' does not fit
abbrev pub Converts : List ℕ → Bool → List ℕ → Type 0
Converts r two r' = (out : List ℕ) → converted r two out ≡ laid_down r' out

-- whether a record is of version 2
abbrev pub is_two : List ℕ → Bool
is_two r = eqb (get_or r 0 0) 2

-- "There and back gives the first bytes"
abbrev pub ThereAndBack : Type 0
ThereAndBack = (r : List ℕ) (two : Bool) (r' : List ℕ) → Converts r two r' → Converts r' (is_two r) r

-- "A record already of it comes out as it is"
abbrev pub AsItIs : Type 0
AsItIs = (r : List ℕ) (cs : List CarIds) → decoded r ≡ ok cs → Converts r (is_two r) r

-- "turns version 1 into 2 always, and 2 into 1 when it has one car": the bytes after the head are the same
pub record Always : Type 0 where
  pub up : (body : List ℕ) (cs : List CarIds) → decoded (1 ∷ body) ≡ ok cs → Converts (1 ∷ body) true (2 ∷ 1 ∷ body)
  pub down : (n : ℕ) (body : List ℕ) (c : CarIds) → decoded (2 ∷ n ∷ body) ≡ ok (c ∷ []) → Converts (2 ∷ n ∷ body) false (1 ∷ body)

-- "with the same digest and ids in order": restore reads one as it reads the other
abbrev pub SameMeaning : Type 0
SameMeaning = (r : List ℕ) (two : Bool) (r' : List ℕ) → Converts r two r' → decoded r' ≡ decoded r

-- "The output is untouched by any of them"
abbrev pub Untouched : Type 0
Untouched = (r : List ℕ) (two : Bool) (out : List ℕ) → IsErr (converted r two out).answer → (converted r two out).out ≡ out

-- each is a byte
abbrev pub Bytes : List ℕ → Type 0
Bytes [] = Unit {0}
Bytes (x ∷ xs) = (x < 256) × Bytes xs

-- of a record of any length, so many bytes decide: 2 + 4 × (33 + 255 × 256), the longest that is well formed, and one more
abbrev pub FirstBytesDecide : Type 0
FirstBytesDecide = (r : List ℕ) (two : Bool) (out : List ℕ) → Bytes r → converted (take 261255 r) two out ≡ converted r two out
