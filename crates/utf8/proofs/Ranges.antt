-- Laws of `within`.
use Rattle.std.proofs.Common.{arith, ◌≡◌, true, false, ℕ, ◌≤◌}
use Rattle.std.proofs.lemmas.Bool.Decides.{nat_tests}
use Rattle.utf8.specs.Utf8.{within}

pub inside : (lo hi x : ℕ) → lo ≤ x → x ≤ hi → within lo hi x ≡ true
unfolding within
inside lo hi x p q = grind (arith, nat_tests)

pub outside : (lo hi x : ℕ) → (lo ≤ x → x ≤ hi → ⊥) → within lo hi x ≡ false
unfolding within
outside lo hi x h = grind (arith, nat_tests)

pub within_true : (lo hi x : ℕ) → within lo hi x ≡ true → (lo ≤ x) × (x ≤ hi)
unfolding within
within_true lo hi x e = (grind (arith, nat_tests), grind (arith, nat_tests))
