-- Laws of the definitions of specs/.
use Rattle.std.proofs.Common.{◌≡◌, refl, ap, ap₂, sym, ◌∙◌, Bool, true, false, cond, List, [], ◌∷◌, ℕ, zero, suc, ◌+◌, ◌-◌, ◌≤◌, ◌<◌, ◌==◌, eqb, ltb, length, take, drop, get_or, count_by, add-one, arith, length-drop, drop-cons}
use native.Mathlib.Nat.{sub-zero, zero-sub, suc-sub-suc}
use Rattle.std.proofs.lemmas.List.Recursion.{is_count_by}
use borrow.Author.Tests.{eq-eqb, eqb-true, ltb-true}
use lib.ListN.{drop_of_length-le}
use lib.Seq.{drop-drop, get_or-drop, length-take-le, take-nil}
use Rattle.replay_script.specs.Places.{has_key, values_of}
use Rattle.replay_script.specs.Words.{split, after_first, items_of, part}
use Rattle.word_table.specs.Words.{before, onto}
use Rattle.word_table.proofs.Laws.{before_le}

-- ---- tests

both_true : (t x : Bool) → cond t x false ≡ true → t ≡ true
both_true true x e = refl
both_true false x e = e

pub never : {A : Type 0} → false ≡ true → A
never e = let z : ◌≡◌ {A = ℕ} 0 1 = cc in absurd (omega arith)

-- ---- before

hit_by : (b x n : ℕ) (xs : List ℕ) (t : Bool) → eqb x b ≡ t → (n < length xs → get_or xs n 0 ≡ b) → cond t 0 (suc n) < suc (length xs) → get_or (x ∷ xs) (cond t 0 (suc n)) 0 ≡ b
hit_by b x n xs true e ih h = eqb-true x b e
hit_by b x n xs false e ih h = ih (omega arith)

before_hit : (b : ℕ) (s : List ℕ) → before b s < length s → get_or s (before b s) 0 ≡ b
unfolding before
before_hit b [] h = omega arith
before_hit b (x ∷ xs) h = hit_by b x (before b xs) xs (eqb x b) refl (before_hit b xs) h

-- a b that was found stands there
pub found : (b : ℕ) (s : List ℕ) (from e : ℕ) → e ≡ from + before b (drop from s) → e < length s → get_or s e 0 ≡ b
found b s from e q h =
    let l = length-drop from s in
    let k : before b (drop from s) < length (drop from s) = omega arith in
    ap (λ (n : ℕ). get_or s n 0) q ∙ (sym (get_or-drop from s (before b (drop from s)) 0) ∙ before_hit b (drop from s) k)

pub found_le : (b : ℕ) (s : List ℕ) (from e : ℕ) → e ≡ from + before b (drop from s) → from ≤ length s → e ≤ length s
found_le b s from e q h = omega (arith, before_le b (drop from s), length-drop from s)

-- ---- words

first_by : (b x n : ℕ) (xs : List ℕ) (t : Bool) → eqb x b ≡ t → split b xs ≡ take n xs ∷ after_first (split b (drop n xs))
    → cond t ([] ∷ split b xs) (onto x (split b xs)) ≡ take (cond t 0 (suc n)) (x ∷ xs) ∷ after_first (split b (drop (cond t 0 (suc n)) (x ∷ xs)))
unfolding split
first_by b x n xs true e ih = rw e
first_by b x n xs false e ih = ap (onto x) ih

-- the first word, and what stands behind it
pub split_first : (b : ℕ) (s : List ℕ) → split b s ≡ take (before b s) s ∷ after_first (split b (drop (before b s) s))
unfolding split before
split_first b [] = refl
split_first b (x ∷ xs) = first_by b x (before b xs) xs (eqb x b) refl (split_first b xs)

-- behind a b
split_behind : (b : ℕ) (s : List ℕ) (at : ℕ) → at < length s → get_or s at 0 ≡ b → after_first (split b (drop at s)) ≡ split b (drop (at + 1) s)
unfolding split
split_behind b s at h k = rw (add-one, drop-cons s at 0 h, eq-eqb (get_or s at 0) b k)

part_length : (a e : ℕ) (s : List ℕ) → a ≤ e → e ≤ length s → length (part a e s) ≡ e - a
part_length a e s h k = length-take-le (e - a) (drop a s) (omega (arith, length-drop a s))

drop_take : (m n : ℕ) (l : List ℕ) → drop m (take n l) ≡ take (n - m) (drop m l)
drop_take zero n l = ap (λ (k : ℕ). take k l) (sym (sub-zero n))
drop_take (suc m) zero l = rw (zero-sub (suc m))
drop_take (suc m) (suc n) [] = sym (take-nil (suc n - suc m))
drop_take (suc m) (suc n) (x ∷ xs) = drop_take m n xs ∙ ap (λ (k : ℕ). take k (drop m xs)) (sym (suc-sub-suc n m))

-- the word between a b and the next one
pub word_turn : (b : ℕ) (s : List ℕ) (at e : ℕ) → at < length s → get_or s at 0 ≡ b → e ≡ at + 1 + before b (drop (at + 1) s)
    → after_first (split b (drop at s)) ≡ part (at + 1) e s ∷ after_first (split b (drop e s))
word_turn b s at e h k q =
    let r = drop (at + 1) s in
    let n = before b r in
    let d : n ≡ e - (at + 1) = omega arith in
    split_behind b s at h k
    ∙ (split_first b r
    ∙ ap₂ (λ (w x : List ℕ). w ∷ after_first (split b x))
    (ap (λ (m : ℕ). take m r) d)
    (drop-drop n (at + 1) s ∙ ap (λ (m : ℕ). drop m s) (sym q)))

-- past the end there is no word
pub split_end : (b : ℕ) (s : List ℕ) (at : ℕ) → length s ≤ at → after_first (split b (drop at s)) ≡ []
unfolding split
split_end b s at h = rw (drop_of_length-le s h)

-- ---- items

pub items_from : (s : List ℕ) (from e : ℕ) → e ≡ from + before 32 (drop from s) → items_of (drop from s) ≡ items_of (drop e s)
unfolding items_of
items_from s from e q =
    ap after_first (split_first 32 (drop from s))
    ∙ ap (λ (x : List ℕ). after_first (split 32 x)) (drop-drop (before 32 (drop from s)) from s ∙ ap (λ (m : ℕ). drop m s) (sym q))

pub items_turn : (s : List ℕ) (at e : ℕ) → at < length s → get_or s at 0 ≡ 32 → e ≡ at + 1 + before 32 (drop (at + 1) s)
    → items_of (drop at s) ≡ part (at + 1) e s ∷ items_of (drop e s)
unfolding items_of
items_turn s at e h k q = word_turn 32 s at e h k q

pub items_end : (s : List ℕ) (at : ℕ) → length s ≤ at → items_of (drop at s) ≡ []
unfolding items_of
items_end s at h = split_end 32 s at h

-- ---- values of a key

key_long : (key w : List ℕ) → has_key key w ≡ true → length key < length w
unfolding has_key
key_long key w e = ltb-true (length key) (length w) (both_true (ltb (length key) (length w)) _ e)

first_value : (key w : List ℕ) (ws : List (List ℕ)) → has_key key w ≡ true → values_of key (w ∷ ws) ≡ drop (suc (length key)) w ∷ values_of key ws
unfolding values_of
first_value key w ws e = rw e

no_value : (key w : List ℕ) (ws : List (List ℕ)) → has_key key w ≡ false → values_of key (w ∷ ws) ≡ values_of key ws
unfolding values_of
no_value key w ws e = rw e

pub values_none : (key : List ℕ) → values_of key [] ≡ []
unfolding values_of
values_none key = refl

-- what stands behind the key
value_part : (s : List ℕ) (start e k : ℕ) → drop (suc k) (part start e s) ≡ part (start + k + 1) e s
value_part s start e k =
    let d : start + suc k ≡ start + k + 1 = omega arith in
    let f : e - start - suc k ≡ e - (start + k + 1) = omega arith in
    drop_take (suc k) (e - start) (drop start s)
    ∙ ap₂ (λ (n : ℕ) (x : List ℕ). take n x) f (drop-drop (suc k) start s ∙ ap (λ (m : ℕ). drop m s) d)

-- the word behind the space at `at` ends at e
module _ (key line : List ℕ) (at e : ℕ) (h : at < length line) (q : e ≡ at + 1 + before 32 (drop (at + 1) line)) where
  pub word_inside : e ≤ length line
  word_inside = found_le 32 line (at + 1) e q (omega arith)

  pub key_inside : has_key key (part (at + 1) e line) ≡ true → at + 1 + length key + 1 ≤ e
  key_inside k = omega (arith, key_long key (part (at + 1) e line) k, part_length (at + 1) e line (omega arith) word_inside)

  pub values_hit : get_or line at 0 ≡ 32 → has_key key (part (at + 1) e line) ≡ true → values_of key (items_of (drop at line)) ≡ part (at + 1 + length key + 1) e line ∷ values_of key (items_of (drop e line))
  values_hit s k =
      ap (values_of key) (items_turn line at e h s q)
      ∙ (first_value key (part (at + 1) e line) (items_of (drop e line)) k
      ∙ ap (λ (v : List ℕ). v ∷ values_of key (items_of (drop e line))) (value_part line (at + 1) e (length key)))

  pub values_miss : get_or line at 0 ≡ 32 → has_key key (part (at + 1) e line) ≡ false → values_of key (items_of (drop at line)) ≡ values_of key (items_of (drop e line))
  values_miss s k = ap (values_of key) (items_turn line at e h s q) ∙ no_value key (part (at + 1) e line) (items_of (drop e line)) k

-- ---- how many items there are

some_word : (b : ℕ) (s : List ℕ) → 0 < length (split b s)
unfolding split
some_word b [] = omega arith
some_word b (x ∷ xs) = some_by (eqb x b) (split b xs)
  where
    some_by : (t : Bool) (ws : List (List ℕ)) → 0 < length (cond t ([] ∷ ws) (onto x ws))
    some_by true ws = omega arith
    some_by false [] = omega arith
    some_by false (w ∷ ws) = omega arith

more_words : (t : Bool) (x : ℕ) (ws : List (List ℕ)) → 0 < length ws → length (cond t ([] ∷ ws) (onto x ws)) - 1 ≡ cond t (1 + (length ws - 1)) (length ws - 1)
more_words true x ws h = omega arith
more_words false x [] h = absurd (omega arith)
more_words false x (w ∷ ws) h = refl

behind_length : (ws : List (List ℕ)) → length (after_first ws) ≡ length ws - 1
behind_length [] = omega arith
behind_length (w ∷ ws) = omega arith

-- one item behind each space
pub items_length : (line : List ℕ) → length (items_of line) ≡ count_by (λ x. x == 32) line
unfolding items_of split
items_length line =
    behind_length (split 32 line)
    ∙ is_count_by (λ s. length (split 32 s) - 1) (λ x. x == 32) (omega arith) (λ x xs. more_words (eqb x 32) x (split 32 xs) (some_word 32 xs)) line
