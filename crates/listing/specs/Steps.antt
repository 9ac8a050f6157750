-- What a private function of the code gives.
use Rattle.std.specs.Prelude.{cond, List, [], ◌∷◌, ℕ, eqb}

-- the place of the first car in a record: after the version, and in version 2 after the number of cars
unfoldable pub first_car : List ℕ → ℕ
first_car [] = 0
first_car (version ∷ rest) = cond (eqb version 1) 1 2
