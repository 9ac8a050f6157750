-- What the argument asks for, by its one byte.
use Rattle.std.proofs.Common.{◌≡◌, refl, ℕ, Bool, true, false, cond, List, [], ◌∷◌, length, get_or, eqb, Some, None, arith}
use borrow.Author.Tests.{eq-eqb, eqb-true}
use Rattle.arrays.specs.Arrays.{same_bytes}
use Rattle.arrays.proofs.Laws.{cond_same}
use Rattle.convert.specs.declared.Version.TheVariants.{One, Two}
use Rattle.convert.specs.Arguments.{target_of}

pub asks_one : (count : ℕ) (word : List ℕ) → count ≡ 2 → length word ≡ 1 → get_or word 0 0 ≡ 49 → target_of count word ≡ Some One
unfolding target_of same_bytes
asks_one count [] two one e = absurd (omega arith)
asks_one count (x ∷ []) two one e = rw (eq-eqb count 2 two, eq-eqb x 49 e)
asks_one count (x ∷ y ∷ word) two one e = absurd (omega arith)

pub asks_two : (count : ℕ) (word : List ℕ) → count ≡ 2 → length word ≡ 1 → get_or word 0 0 ≡ 50 → target_of count word ≡ Some Two
unfolding target_of same_bytes
asks_two count [] two one e = absurd (omega arith)
asks_two count (x ∷ []) two one e = rw (eq-eqb count 2 two, e)
asks_two count (x ∷ y ∷ word) two one e = absurd (omega arith)

pub asks_none : (count : ℕ) (word : List ℕ)
    → (count ≡ 2 → length word ≡ 1 → get_or word 0 0 ≡ 49 → ⊥) → (count ≡ 2 → length word ≡ 1 → get_or word 0 0 ≡ 50 → ⊥) → target_of count word ≡ None
unfolding target_of same_bytes
asks_none count word not_one not_two = go (eqb count 2) refl word refl
  where
    byte : (x : ℕ) (a b : Bool) → eqb x 49 ≡ a → eqb x 50 ≡ b → (eqb x 49 ≡ true → ⊥) → (eqb x 50 ≡ true → ⊥)
        → cond (cond (eqb x 49) true false) (Some One) (cond (cond (eqb x 50) true false) (Some Two) None) ≡ None
    byte x true b ea eb f g = absurd (f ea)
    byte x false true ea eb f g = absurd (g eb)
    byte x false false ea eb f g = rw (ea, eb)

    go : (t : Bool) → eqb count 2 ≡ t → (w : List ℕ) → word ≡ w → target_of count w ≡ None
    go false e w ew = rw e
    go true e [] ew = rw e
    go true e (x ∷ y ∷ w) ew = rw (e, cond_same (eqb x 49) false, cond_same (eqb x 50) false)
    go true e (x ∷ []) ew =
        rw e (byte x (eqb x 49) (eqb x 50) refl refl (λ q. not_one (eqb-true count 2 e) (rw ew) (rw ew (eqb-true x 49 q))) (λ q. not_two (eqb-true count 2 e) (rw ew) (rw ew (eqb-true x 50 q))))
