-- A list whose every element is as `counted` has it.
use Rattle.std.proofs.Common.{◌≡◌, refl, sym, ◌∙◌, ap₂, ℕ, zero, suc, ◌%◌, ◌<◌, ◌≤◌, List, [], ◌∷◌, ◌++◌, length, take, get_or, arith, take-suc, take_all}
use Rattle.vectors.specs.Counted.{counted}

front : (b : List ℕ) (n : ℕ) → n ≤ length b → ((i : ℕ) → i < n → get_or b i 0 ≡ i % 251) → take n b ≡ counted n
unfolding counted
front b zero h each = refl
front b (suc n) h each =
    take-suc b n 0 h ∙ ap₂ (λ (l : List ℕ) (x : ℕ). l ++ x ∷ []) (front b n (omega (arith, h)) (λ i q. each i (omega (arith, q)))) (each n (omega arith))

pub counted_all : (b : List ℕ) (n : ℕ) → length b ≡ n → ((i : ℕ) → i < n → get_or b i 0 ≡ i % 251) → b ≡ counted n
counted_all b n long each = sym (take_all n b (omega (arith, long))) ∙ front b n (omega (arith, long)) each
