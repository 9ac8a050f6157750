-- Laws of the items that a row wants, and of the numbers of rows.
use Rattle.std.proofs.Common.{◌≡◌, ap, refl, sym, Bool, true, false, cond, List, [], ◌∷◌, ℕ, ◌+◌, ◌-◌, ◌≤◌, ◌<◌, eqb, length, drop, get_or, arith}
use borrow.Author.Tests.{eq-eqb, ne_eqb, eqb-true, eqb-false}
use lib.ListN.{drop_of_length-le, get_or-eq_default}
use Rattle.word_table.specs.Words.{before, lines_of, rest_of, place_in}
use Rattle.word_table.proofs.Laws.{rest_pieces}
use Rattle.replay_names.specs.Names.{all_right, in_all, exactly}

-- m less on both sides
less_by : (m t left : ℕ) (b : Bool) → m ≤ left → eqb t (left - m) ≡ b → eqb (m + t) left ≡ b
less_by m t left true h e = let q = eqb-true t (left - m) e in eq-eqb (m + t) left (omega arith)
less_by m t left false h e = let q = eqb-false t (left - m) e in ne_eqb (m + t) left (λ p. q (omega arith))

same : (b : Bool) → cond b false false ≡ false
same true = refl
same false = refl

module _ (ks : List (List ℕ)) (right : List Bool) (many : List ℕ) (left : ℕ) (ws : List (List ℕ)) (w : List ℕ) (more : List (List ℕ)) (e : ws ≡ w ∷ more) (k : ℕ) (q : k ≡ place_in ks w) where
  pub one_less : get_or right k false ≡ true → get_or many k 0 ≤ left → exactly ks right many left ws ≡ exactly ks right many (left - get_or many k 0) more
  unfolding exactly all_right in_all
  one_less t f = rw (e, ← q, t, less_by (get_or many k 0) (in_all ks many more) left _ f refl)

  pub not_right : get_or right k false ≡ false → exactly ks right many left ws ≡ false
  unfolding exactly all_right
  not_right t = rw (e, ← q, t)

  pub no_key : length right ≤ k → exactly ks right many left ws ≡ false
  no_key h = not_right (get_or-eq_default right false h)

  pub too_many : get_or right k false ≡ true → left < get_or many k 0 → exactly ks right many left ws ≡ false
  unfolding exactly all_right in_all
  too_many t f =
      let m = get_or many k 0 in
      rw (e, ← q, t, ne_eqb (m + in_all ks many more) left (λ p. omega arith)) (same (all_right ks right more))

pub none_left : (ks : List (List ℕ)) (right : List Bool) (many : List ℕ) (left : ℕ) (s : List ℕ) → s ≡ [] → exactly ks right many left (lines_of 32 s) ≡ eqb 0 left
unfolding exactly all_right in_all lines_of
none_left ks right many left s e = rw e

-- the words behind a row's name, where it has one
module _ (ks : List (List ℕ)) (right : List Bool) (many : List ℕ) (left : ℕ) (row : List ℕ) where
  pub behind_name : (name words : List ℕ) → lines_of 32 row ≡ name ∷ lines_of 32 words → exactly ks right many left (lines_of 32 (rest_of row)) ≡ exactly ks right many left (lines_of 32 words)
  behind_name name words e = ap (exactly ks right many left) (sym (rest_pieces row name (lines_of 32 words) e))

  pub behind_none : row ≡ [] → exactly ks right many left (lines_of 32 (rest_of row)) ≡ exactly ks right many left (lines_of 32 row)
  unfolding rest_of
  behind_none e =
      let none : List ℕ = [] in
      let k : drop (before 32 none + 1) none ≡ none = drop_of_length-le none (omega arith) in
      rw (e, k)
