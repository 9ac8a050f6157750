-- The bytes of which the program makes fingerprints.
use Rattle.std.specs.Prelude.{List, [], ◌∷◌, ◌++◌, ℕ, zero, suc, ◌%◌}

-- 0, 1, .., 250, 0, 1, .., n in all
unfoldable pub counted : ℕ → List ℕ
counted zero = []
counted (suc n) = counted n ++ n % 251 ∷ []
