-- The draw of a code (01, Sessions and codes; uniform_code of validation.rs).
use Rattle.std.specs.Prelude.{cond, Option, Some, None, option_map, List, [], ◌∷◌, ◌++◌, ℕ, zero, suc, ◌+◌, ◌-◌, ◌*◌, ◌/◌, ◌%◌, ◌^◌, ltb, get_or}
use Rattle.arrays.specs.Arrays.{padded}

-- the draw limit is M minus M modulo 10^n, where M = 4,294,967,295
unfoldable pub draw_limit : ℕ → ℕ
draw_limit n = 4294967295 - 4294967295 % 10 ^ n

-- a group: four bytes, little-endian
unfoldable pub group : ℕ → ℕ → ℕ → ℕ → ℕ
group a b c d = a + 256 * b + 65536 * c + 16777216 * d

-- the group of s that starts at i
abbrev pub group_at : List ℕ → ℕ → ℕ
group_at s i = group (get_or s i 0) (get_or s (i + 1) 0) (get_or s (i + 2) 0) (get_or s (i + 3) 0)

-- the first whole 4-byte group, from the front, below the limit
unfoldable pub first_below : ℕ → List ℕ → Option ℕ
first_below l [] = None
first_below l (a ∷ []) = None
first_below l (a ∷ b ∷ []) = None
first_below l (a ∷ b ∷ c ∷ []) = None
first_below l (a ∷ b ∷ c ∷ d ∷ r) = cond (ltb (group a b c d) l) (Some (group a b c d)) (first_below l r)

-- the last n digits of v in ASCII, first digit first, with leading zeros
unfoldable pub digits : ℕ → ℕ → List ℕ
digits v zero = []
digits v (suc k) = digits (v / 10) k ++ (48 + v % 10) ∷ []

-- the group modulo 10^n gives n digits, and zeros past them
abbrev pub code_of : ℕ → Option ℕ → Option (List ℕ)
code_of n found = option_map (λ v. padded 9 0 (digits (v % 10 ^ n) n)) found

-- the code of n digits that random bytes draw; none if n is above 9
unfoldable pub drawn : List ℕ → ℕ → Option (List ℕ)
drawn random n = cond (ltb 9 n) None (code_of n (first_below (draw_limit n) random))
