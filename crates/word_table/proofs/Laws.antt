-- Laws of lines and places.
use Rattle.std.proofs.Common.{◌≡◌, refl, ap, ◌∙◌, Bool, true, false, cond, List, [], ◌∷◌, ℕ, suc, ◌+◌, ◌-◌, ◌≤◌, ◌<◌, min, eqb, length, take, drop, get_or, add-one, arith, length-drop, drop-cons}
use Rattle.std.proofs.lemmas.List.{take_all, drop_min}
use borrow.Author.Tests.{eq-eqb, ne_eqb}
use lib.ListN.{drop_of_length-le}
use lib.Seq.{drop-drop}
use native.Mathlib.Nat.{sub-zero}
use Rattle.arrays.specs.Arrays.{same_bytes}
use Rattle.word_table.specs.Words.{before, onto, lines_of, name_of, rest_of, place_in}

-- at a byte b, none stand before it
pub before_here : (b : ℕ) (s : List ℕ) (i : ℕ) → i < length s → get_or s i 0 ≡ b → before b (drop i s) ≡ 0
unfolding before
before_here b s i h e = rw (drop-cons s i 0 h, eq-eqb _ _ e)

pub before_more : (b : ℕ) (s : List ℕ) (i : ℕ) → i < length s → (get_or s i 0 ≡ b → ⊥) → before b (drop i s) ≡ suc (before b (drop (i + 1) s))
unfolding before
before_more b s i h e = rw (add-one, drop-cons s i 0 h, ne_eqb _ _ e)

pub before_end : (b : ℕ) (s : List ℕ) (i : ℕ) → length s ≤ i → before b (drop i s) ≡ 0
unfolding before
before_end b s i h = rw (drop_of_length-le s h)

-- no more stand before it than there are
pub before_le : (b : ℕ) (s : List ℕ) → before b s ≤ length s
unfolding before
before_le b [] = omega arith
before_le b (x ∷ xs) = le_case (eqb x b) (before b xs) (length xs) (before_le b xs)
  where
    le_case : (t : Bool) (m n : ℕ) → m ≤ n → cond t 0 (suc m) ≤ suc n
    le_case true m n h = omega arith
    le_case false m n h = omega arith

pub end_inside : (b : ℕ) (s : List ℕ) (at e : ℕ) → at ≤ length s → e ≡ at + before b (drop at s) → (at ≤ e) × (e ≤ length s)
end_inside b s at e h q = (omega arith, omega (arith, before_le b (drop at s), length-drop at s))

-- the first piece, and the pieces behind it
module _ (b : ℕ) where
  Cut : List ℕ → Type 0
  Cut s = lines_of b s ≡ take (before b s) s ∷ lines_of b (drop (suc (before b s)) s)

  cut_more : (t : Bool) (x : ℕ) (xs : List ℕ) → Cut xs
      → cond t ([] ∷ lines_of b xs) (onto x (lines_of b xs)) ≡ take (cond t 0 (suc (before b xs))) (x ∷ xs) ∷ lines_of b (drop (cond t 0 (suc (before b xs))) xs)
  unfolding Cut
  cut_more true x xs h = refl
  cut_more false x xs h = rw h

  cut_last : (t : Bool) (x : ℕ) → cond t ([] ∷ []) ((x ∷ []) ∷ []) ≡ take (cond t 0 1) (x ∷ []) ∷ lines_of b (drop (cond t 0 1) [])
  unfolding lines_of
  cut_last true x = refl
  cut_last false x = refl

  cut : (x : ℕ) (xs : List ℕ) → Cut (x ∷ xs)
  unfolding before lines_of Cut
  cut x [] = cut_last (eqb x b) x
  cut x (y ∷ ys) = cut_more (eqb x b) x (y ∷ ys) (cut y ys)

  pub lines_cut : (s : List ℕ) (at e : ℕ) → at < length s → e ≡ at + before b (drop at s) → lines_of b (drop at s) ≡ take (e - at) (drop at s) ∷ lines_of b (drop (e + 1) s)
  unfolding Cut
  lines_cut s at e h q =
      let d = drop at s in
      let k : Cut d = rw (drop-cons s at 0 h) (cut (get_or s at 0) (drop (suc at) s)) in
      let m : e - at ≡ before b d = omega arith in
      let f : e + 1 ≡ at + suc (before b d) = omega arith in
      rw (m, f, ← drop-drop) k

  pub lines_end : (s : List ℕ) (at : ℕ) → length s ≤ at → lines_of b (drop at s) ≡ []
  unfolding lines_of
  lines_end s at h = rw (drop_of_length-le s h)

-- the first piece, and the pieces behind it, where the end of the text may come before a b
pub first_cut : (b : ℕ) (s : List ℕ) (e m : ℕ) → 0 < length s → e ≡ before b s → m ≡ min (e + 1) (length s) → lines_of b s ≡ take e s ∷ lines_of b (take (length s - m) (drop m s))
first_cut b s e m h q w =
    let k = lines_cut b s 0 e h (omega arith) in
    let f : take (length s - m) (drop m s) ≡ drop (e + 1) s = take_all (length s - m) (drop m s) (omega (arith, length-drop m s)) ∙ (ap (λ (x : ℕ). drop x s) w ∙ drop_min (e + 1) s) in
    rw f (k ∙ ap (λ (n : ℕ). take n s ∷ lines_of b (drop (e + 1) s)) (sub-zero e))

pub no_bytes : (s : List ℕ) → length s ≡ 0 → s ≡ []
no_bytes [] h = refl
no_bytes (x ∷ xs) h = absurd (omega arith)

-- among rows, the first has the name, or not
pub place_hit : (rows : List (List ℕ)) (row w : List ℕ) (more : List (List ℕ)) → rows ≡ row ∷ more → same_bytes w (name_of row) ≡ true → place_in rows w ≡ 0
unfolding place_in
place_hit rows row w more e t = rw (e, t)

pub place_miss : (rows : List (List ℕ)) (row w : List ℕ) (more : List (List ℕ)) → rows ≡ row ∷ more → same_bytes w (name_of row) ≡ false → place_in rows w ≡ 1 + place_in more w
unfolding place_in
place_miss rows row w more e t = rw (e, t) (omega arith)

pub place_none : (s w : List ℕ) → s ≡ [] → place_in (lines_of 10 s) w ≡ 0
unfolding place_in lines_of
place_none s w e = rw e

-- the row n steps further
pub row_step : (rows : List (List ℕ)) (row : List ℕ) (more : List (List ℕ)) (n : ℕ) → rows ≡ row ∷ more → 0 < n → get_or rows n [] ≡ get_or more (n - 1) []
row_step rows row more n e h = let f : n ≡ suc (n - 1) = omega arith in rw e (ap (λ (m : ℕ). get_or (row ∷ more) m []) f)

pub row_none : (s : List ℕ) (n : ℕ) → s ≡ [] → s ≡ get_or (lines_of 10 s) n []
unfolding lines_of
row_none s n e = rw e

-- the pieces behind a row's name
no_rows : lines_of 32 [] ≡ []
unfolding lines_of
no_rows = refl

pub rest_pieces : (row name : List ℕ) (more : List (List ℕ)) → lines_of 32 row ≡ name ∷ more → more ≡ lines_of 32 (rest_of row)
unfolding rest_of
rest_pieces [] name more e = cc no_rows
rest_pieces (x ∷ xs) name more e =
    let row = x ∷ xs in
    let k : lines_of 32 row ≡ take (before 32 row - 0) row ∷ lines_of 32 (drop (before 32 row + 1) row) = lines_cut 32 row 0 (before 32 row) (omega arith) (omega arith) in
    cc
