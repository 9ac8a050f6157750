-- Laws of what stands at a place: in a function by arms, and in the lines of all kinds one behind the other.
use Rattle.std.proofs.Common.{◌≡◌, refl, ◌∙◌, List, [], ◌∷◌, ◌++◌, map, length, get_or, ℕ, zero, suc, ◌-◌, ◌≤◌, ◌<◌, le_of_suc-le-suc, not-suc-le-zero, arith}
use Rattle.std.proofs.lemmas.List.{get_or_past}
use Rattle.definition.specs.Gate.{ask, on_core, approve_can_read_write}
use Rattle.answers.specs.Query.{is_can_read_only, can_read_write_approval}
use Rattle.replay_items.specs.Bytes.{Bytes}
use Rattle.replay_items.specs.declared.Items.{Items}
use Rattle.replay_calls.specs.Calls.{Line, call, unknown, asking, new_call, phone_calls, can_calls, plain_queries, long_queries, phone_call, can_call, plain_query, long_query, other_lines, host_lines, host_line, rest_lines, asking_lines, lines, rest_line, asking_line, line_of}

-- n is none of the numbers from 1 to k
abbrev pub Others : ℕ → ℕ → Type 0
Others zero n = Unit
Others (suc k) n = Others k n × (n ≡ suc k → ⊥)

past : (k n : ℕ) → Others k (suc n) → k ≤ n
past zero n t = omega arith
past (suc k) n t =
    let h = past k n t.0 in
    let e = t.1 in
    omega arith

-- none of the places but the first
abbrev pub NoOther : {A : Type 0} → List A → ℕ → Type 0
NoOther [] n = Unit
NoOther (x ∷ xs) n = Others (length xs) n

-- the arm `_` is the first, and what is past the last
pub else_first : {A : Type 0} (l : List A) (d : A) (n : ℕ) → get_or l 0 d ≡ d → NoOther l n → get_or l n d ≡ d
else_first [] d n e t = refl
else_first (x ∷ xs) d zero e t = e
else_first (x ∷ xs) d (suc n) e t = get_or_past xs _ d (past (length xs) n t)

-- in the first list, or behind it
module _ {A : Type 0} (f : A → Line) where
  here : (xs : List A) (rest : List Line) (n : ℕ) (x : A) → n < length xs → get_or (map f xs ++ rest) n unknown ≡ f (get_or xs n x)
  here [] rest n x h = absurd (not-suc-le-zero h)
  here (y ∷ ys) rest zero x h = refl
  here (y ∷ ys) rest (suc n) x h = here ys rest n x (le_of_suc-le-suc h)

  behind : (xs : List A) (rest : List Line) (n : ℕ) → length xs ≤ n → get_or (map f xs ++ rest) n unknown ≡ get_or rest (n - length xs) unknown
  behind [] rest n h = let e : n - 0 ≡ n = omega arith in rw e
  behind (y ∷ ys) rest zero h = absurd (not-suc-le-zero h)
  behind (y ∷ ys) rest (suc n) h = let e : suc n - suc (length ys) ≡ n - length ys = omega arith in rw e (behind ys rest n (le_of_suc-le-suc h))

-- how many rows each kind has
abbrev phones : ℕ
phones = 14

abbrev cans : ℕ
cans = 18

abbrev plains : ℕ
plains = 17

abbrev longs : ℕ
longs = 14

abbrev others : ℕ
others = 4

-- the line of a row, by its kind and its place there
module _ (i : Items) (b : Bytes) (n : ℕ) where
  abbrev from_can : List Line
  from_can = map call (can_calls i b) ++ asking_lines i b

  pub line_phone : n < phones → line_of n i b ≡ call (phone_call n i b)
  unfolding line_of lines phone_call phone_calls
  line_phone h = here call (phone_calls i b) from_can n (new_call i) h

  pub line_can : phones ≤ n → n - phones < cans → line_of n i b ≡ call (can_call (n - phones) i b)
  unfolding line_of lines phone_calls can_call can_calls
  line_can h t = behind call (phone_calls i b) from_can n h ∙ here call (can_calls i b) (asking_lines i b) (n - phones) (on_core approve_can_read_write) t

  pub line_asking : phones ≤ n → cans ≤ n - phones → line_of n i b ≡ asking_line (n - phones - cans) i b
  unfolding line_of lines phone_calls can_calls asking_line
  line_asking h k = behind call (phone_calls i b) from_can n h ∙ behind call (can_calls i b) (asking_lines i b) (n - phones) k

  abbrev from_long : List Line
  from_long = map asking (long_queries i b) ++ rest_lines i b

  pub asking_plain : n < plains → asking_line n i b ≡ call (ask (plain_query n i b))
  unfolding asking_line asking_lines plain_query plain_queries
  asking_plain h = here asking (plain_queries i b) from_long n is_can_read_only h

  pub asking_long : plains ≤ n → n - plains < longs → asking_line n i b ≡ call (ask (long_query (n - plains) i b))
  unfolding asking_line asking_lines plain_queries long_query long_queries
  asking_long h t = behind asking (plain_queries i b) from_long n h ∙ here asking (long_queries i b) (rest_lines i b) (n - plains) can_read_write_approval t

  pub asking_rest : plains ≤ n → longs ≤ n - plains → asking_line n i b ≡ rest_line (n - plains - longs) i b
  unfolding asking_line asking_lines plain_queries long_queries rest_line
  asking_rest h k = behind asking (plain_queries i b) from_long n h ∙ behind asking (long_queries i b) (rest_lines i b) (n - plains) k

  pub rest_host : others ≤ n → rest_line n i b ≡ host_line (n - others) i b
  unfolding rest_line rest_lines other_lines host_line
  rest_host h = behind (λ (x : Line). x) (other_lines i b) (host_lines i b) n h
