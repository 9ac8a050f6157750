-- What functions of the code give.
use Rattle.std.specs.Prelude.{Bool, true, false, cond, ◌&&◌, List, ℕ, ltb}
use Rattle.arrays.specs.Arrays.{same_bytes}

-- whether one digest stands at two of the places in use, in the order of `twice`
unfoldable pub twice_at : ℕ → List ℕ → List ℕ → List ℕ → List ℕ → Bool
twice_at n a b c d =
    cond (cond (ltb 1 n && same_bytes b a) true (cond (ltb 2 n && same_bytes c a) true (cond (ltb 3 n && same_bytes d a) true false))) true
    (cond (cond (ltb 2 n && same_bytes c b) true (cond (ltb 3 n && same_bytes d b) true false)) true
    (cond (cond (ltb 3 n && same_bytes d c) true false) true false))
