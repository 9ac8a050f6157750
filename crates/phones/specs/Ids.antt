-- Lists of ids, an id being its bytes: what is asked of them and done to them. Nothing here knows how a list lies in memory.
use Rattle.std.specs.Prelude.{Bool, true, false, cond, not, ◌&&◌, List, [], ◌∷◌, ◌++◌, ℕ, ◌+◌, ltb, length}
use Rattle.arrays.specs.Arrays.{same_bytes}

-- ---- lists of anything

-- whether a test passes on some of them
unfoldable pub some_of : {A : Type 0} → (A → Bool) → List A → Bool
some_of f [] = false
some_of f (x ∷ xs) = cond (f x) true (some_of f xs)

-- whether a test passes on all of them
unfoldable pub all_of : {A : Type 0} → (A → Bool) → List A → Bool
all_of f [] = true
all_of f (x ∷ xs) = cond (f x) (all_of f xs) false

-- those on which a test passes, in their order
unfoldable pub kept : {A : Type 0} → (A → Bool) → List A → List A
kept f [] = []
kept f (x ∷ xs) = cond (f x) (x ∷ kept f xs) (kept f xs)

-- those whose mark is true, in their order; what lies past the marks goes
unfoldable pub keep_where : {A : Type 0} → List Bool → List A → List A
keep_where ms [] = []
keep_where [] (x ∷ xs) = []
keep_where (m ∷ ms) (x ∷ xs) = cond m (x ∷ keep_where ms xs) (keep_where ms xs)

-- ---- lists of ids

-- all their bytes, end to end
unfoldable pub joined : List (List ℕ) → List ℕ
joined [] = []
joined (p ∷ ps) = p ++ joined ps

-- whether s is one of ps: all of its bytes and no others
unfoldable pub contains : List ℕ → List (List ℕ) → Bool
contains s ps = some_of (λ (p : List ℕ). same_bytes p s) ps

-- whether some id of ps is among os
unfoldable pub any_in : List (List ℕ) → List (List ℕ) → Bool
any_in os ps = some_of (λ (p : List ℕ). contains p os) ps

-- without the first id that is s
unfoldable pub remove_first : List ℕ → List (List ℕ) → List (List ℕ)
remove_first s [] = []
remove_first s (p ∷ ps) = cond (same_bytes p s) ps (p ∷ remove_first s ps)

-- without every id that is s
unfoldable pub remove_all : List ℕ → List (List ℕ) → List (List ℕ)
remove_all s ps = kept (λ (p : List ℕ). not (same_bytes p s)) ps

-- the ids of ps that are among os
unfoldable pub retain_in : List (List ℕ) → List (List ℕ) → List (List ℕ)
retain_in os ps = kept (λ (p : List ℕ). contains p os) ps

-- at most 32 ids, of at most 32 bytes each
unfoldable pub ids_fit : List (List ℕ) → Bool
ids_fit ps = cond (ltb 32 (length ps)) false (not (some_of (λ (p : List ℕ). ltb 32 (length p)) ps))

-- ---- what becomes of a list

-- something that lies in memory stays as it lies, or is laid anew
pub data Left (A : Type 0) : Type 0 where
  stays : Left A
  becomes : A → Left A

-- what is there afterwards
abbrev pub afterwards : {A : Type 0} → A → Left A → A
afterwards x stays = x
afterwards x (becomes y) = y

-- a place and the bytes for s; where ps and s fit, that is a place
unfoldable pub room_for : List ℕ → List (List ℕ) → Bool
room_for s ps = ltb (length ps) 32 && not (ltb 1024 (length (joined ps) + length s))

-- s put last; where there is no room, nothing is put
unfoldable pub pushed : List ℕ → List (List ℕ) → Left (List (List ℕ))
pushed s ps = cond (room_for s ps) (becomes (ps ++ (s ∷ []))) stays
