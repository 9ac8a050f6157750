-- Words with spaces between them, and the values behind their keys.
use Rattle.std.proofs.Common.{◌≡◌, refl, ap, ap₂, sym, ◌∙◌, Bool, true, false, cond, List, [], ◌∷◌, ◌++◌, append_assoc, ℕ, suc, ◌+◌, ◌-◌, ◌≤◌, add-one, arith, ne_eqb, ltb-true, ltb-false, eqb, ltb, min, length, take, drop, length-append, length-drop, drop_of_length-le, take_all, take_at, drop_at}
use lib.Seq.{drop-append-add}
use Rattle.word_table.specs.Words.{before}
use Rattle.frame_lines.specs.Guess.{behind, rest}

-- no b stands in s
abbrev pub Without : ℕ → List ℕ → Type 0
Without b s = before b s ≡ length s

over_by : (t : Bool) (b n m k : ℕ) → cond t 0 (suc n) ≡ suc m → (n ≡ m → k ≡ m + b) → cond t 0 (suc k) ≡ suc m + b
over_by true b n m k e ih = absurd (omega arith)
over_by false b n m k e ih = let h = ih (omega arith) in omega arith

-- a b behind a text without one
pub before_append : (b : ℕ) (xs ys : List ℕ) → Without b xs → before b (xs ++ ys) ≡ length xs + before b ys
unfolding before
before_append b [] ys h = omega arith
before_append b (x ∷ xs) ys h = over_by (eqb x b) (before b ys) (before b xs) (length xs) (before b (xs ++ ys)) h (before_append b xs ys)

pub without_append : (b : ℕ) (xs ys : List ℕ) → Without b xs → Without b ys → Without b (xs ++ ys)
without_append b xs ys h k = before_append b xs ys h ∙ (ap (λ (n : ℕ). length xs + n) k ∙ sym (length-append xs ys))

pub without_one : (b x : ℕ) → (x ≡ b → ⊥) → Without b (x ∷ [])
unfolding before
without_one b x h = rw (ne_eqb x b h)

-- ---- a key, its value and a space in front

module _ (k xs r : List ℕ) (h : Without 32 k) (g : Without 32 xs) where
  word_ends : before 32 (k ++ (xs ++ 32 ∷ r)) ≡ length (k ++ xs)
  unfolding before
  word_ends =
      let e : before 32 (32 ∷ r) ≡ 0 = refl in
      let l = length-append k xs in
      let p = before_append 32 xs (32 ∷ r) g in
      let q = before_append 32 k (xs ++ 32 ∷ r) h in
      omega arith

  in_front : k ++ (xs ++ 32 ∷ r) ≡ (k ++ xs) ++ 32 ∷ r
  in_front = sym (append_assoc k xs (32 ∷ r))

  -- the value
  pub behind_word : behind (length k) (k ++ (xs ++ 32 ∷ r)) ≡ xs
  unfolding behind
  behind_word =
      let e : length (k ++ xs) - length k ≡ length xs = let l = length-append k xs in omega arith in
      ap₂ take (ap (λ (n : ℕ). n - length k) word_ends ∙ e) (drop_at k (xs ++ 32 ∷ r) (length k) refl) ∙ take_at xs (32 ∷ r) (length xs) refl

  -- what stands behind the space
  pub rest_word : rest (k ++ (xs ++ 32 ∷ r)) ≡ r
  unfolding rest
  rest_word =
      ap (λ (n : ℕ). drop (suc n) (k ++ (xs ++ 32 ∷ r))) word_ends
      ∙ (ap (drop (suc (length (k ++ xs)))) in_front
      ∙ (ap (λ (n : ℕ). drop n ((k ++ xs) ++ 32 ∷ r)) (sym (add-one (length (k ++ xs)))) ∙ drop-append-add (k ++ xs) (32 ∷ r) 1))

-- ---- what the code cuts out

-- the first word without its first n bytes
pub behind_part : (s : List ℕ) (n e m : ℕ) → e ≡ 0 + before 32 (drop 0 s) → m ≡ min n e → take (e - m) (drop m s) ≡ behind n s
unfolding behind
behind_part s n e m q p = go (ltb e n) refl
  where
    z : before 32 s ≡ e
    z = omega arith

    go : (t : Bool) → ltb e n ≡ t → take (e - m) (drop m s) ≡ take (before 32 s - n) (drop n s)
    go true h =
        let l = ltb-true e n h in
        let a : e - m ≡ 0 = omega arith in
        let b : e - n ≡ 0 = omega arith in
        rw (z, a, b)
    go false h =
        let l = ltb-false e n h in
        let a : m ≡ n = omega arith in
        rw (z, a)

-- a part up to the end
tail_is : (s : List ℕ) (b : ℕ) → take (length s - b) (drop b s) ≡ drop b s
tail_is s b = let l = length-drop b s in take_all (length s - b) (drop b s) (omega arith)

-- past the space, and the end where there is none
module _ (s : List ℕ) (e : ℕ) (q : e ≡ 0 + before 32 (drop 0 s)) where
  pub rest_found : take (length s - (e + 1)) (drop (e + 1) s) ≡ rest s
  unfolding rest
  rest_found = let z : e + 1 ≡ suc (before 32 s) = omega arith in tail_is s (e + 1) ∙ ap (λ (n : ℕ). drop n s) z

  pub rest_end : length s ≤ e → take (length s - length s) (drop (length s) s) ≡ rest s
  unfolding rest
  rest_end h =
      let m : length s ≤ suc (before 32 s) = omega arith in
      let k : length s ≤ length s = omega arith in
      tail_is s (length s) ∙ (drop_of_length-le s k ∙ sym (drop_of_length-le s m))
