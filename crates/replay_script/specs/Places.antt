-- The items with a key, and where their values stand in the line.
use Rattle.std.specs.Prelude.{◌≡◌, Bool, false, cond, List, [], ◌∷◌, ℕ, suc, ◌≤◌, ◌<◌, eqb, ltb, length, take, drop, get_or, Option, MatchOption}
use Rattle.arrays.specs.Arrays.{same_bytes}
use Rattle.replay_script.specs.Words.{items_of, part}
use Rattle.replay_script.specs.declared.Span.{Span}

-- the word is the key, then 61, which is `=`, then anything
unfoldable pub has_key : List ℕ → List ℕ → Bool
has_key key w = cond (ltb (length key) (length w)) (cond (eqb (get_or w (length key) 0) 61) (same_bytes (take (length key) w) key) false) false

-- the values of the items with this key, in their order
unfoldable pub values_of : List ℕ → List (List ℕ) → List (List ℕ)
values_of key [] = []
values_of key (w ∷ ws) = cond (has_key key w) (drop (suc (length key)) w ∷ values_of key ws) (values_of key ws)

-- s marks the first value with this key behind the word at `from`
pub record Marks (line : List ℕ) (from : ℕ) (key : List ℕ) (s : Span) : Type 0 where
  pub values : values_of key (items_of (drop from line)) ≡ part s.start s.end line ∷ values_of key (items_of (drop s.end line))
  pub ordered : s.start ≤ s.end
  pub inside : s.end ≤ length line
  pub onward : from < s.end

-- r marks it; if r is none, there is none
abbrev pub Next : List ℕ → ℕ → List ℕ → Option Span → Type 0
Next line from key r = MatchOption r (values_of key (items_of (drop from line)) ≡ []) (Marks line from key)

-- the only one of a list; none if there is none or a second
abbrev pub only : List (List ℕ) → List (List ℕ)
only [] = []
only (v ∷ []) = v ∷ []
only (v ∷ w ∷ vs) = []

-- the value of the only item with this key
unfoldable pub item_of : List ℕ → List ℕ → List (List ℕ)
item_of key line = only (values_of key (items_of line))

-- the first of a list; nothing if there is none
unfoldable pub first_of : List (List ℕ) → List ℕ
first_of [] = []
first_of (v ∷ vs) = v

-- s marks it
pub record MarksOnly (line : List ℕ) (key : List ℕ) (s : Span) : Type 0 where
  pub value : item_of key line ≡ part s.start s.end line ∷ []
  pub ordered : s.start ≤ s.end
  pub inside : s.end ≤ length line

-- r marks it; if r is none, there is none
abbrev pub Only : List ℕ → List ℕ → Option Span → Type 0
Only line key r = MatchOption r (item_of key line ≡ []) (MarksOnly line key)
