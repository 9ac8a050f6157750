-- Laws of what is written one after the other.
use Rattle.std.proofs.Common.{◌≡◌, ap, ◌∙◌, List, [], ◌∷◌, ◌++◌, append-nil, ℕ, ◌+◌, ◌≤◌, add-zero, arith, length, take, length-append, take-append-drop}
use Rattle.arrays.specs.Arrays.{put}
use Rattle.phone_fields.proofs.Writing.{put_put}
use Rattle.car_lines.specs.Lines.{line}
use Rattle.car_lines.specs.Walk.{Wrote}

pub put_nil : (d : List ℕ) (at : ℕ) → put d at [] ≡ d
unfolding put
put_nil d at = rw (add-zero at, append-nil (take at d)) (take-append-drop at d)

pub line_length_lem : (name value : List ℕ) → length (line name value) ≡ length name + length value + 1
unfolding line
line_length_lem name value = length-append (name ++ value) (10 ∷ []) ∙ ap (λ (n : ℕ). n + 1) (length-append name value)

-- a second text after the first
pub wrote_more : (a : List ℕ) (at : ℕ) (x b : List ℕ) (m : ℕ) (y c : List ℕ) (e : ℕ) → Wrote a at x b m → Wrote b m y c e → at + length (x ++ y) ≤ length a → Wrote a at (x ++ y) c e
wrote_more a at x b m y c e w v h =
    let l = length-append x y in
    let p = w.place in
    let q = v.place in
    record { bytes = rw (v.bytes, w.bytes, p) (put_put a at x y (omega arith)); place = omega arith }

-- a name, a value and byte 10 make a line
pub wrote_line : (d : List ℕ) (at : ℕ) (name value d₁ : List ℕ) (from : ℕ) (d₂ : List ℕ) (end : ℕ) (d₃ : List ℕ) (e : ℕ)
    → Wrote d at name d₁ from → Wrote d₁ from value d₂ end → Wrote d₂ end (10 ∷ []) d₃ e → at + length (line name value) ≤ length d
    → Wrote d at (line name value) d₃ e
unfolding line
wrote_line d at name value d₁ from d₂ end d₃ e w v u h =
    let l = line_length_lem name value in
    let b = length-append name value in
    wrote_more d at (name ++ value) d₂ end (10 ∷ []) d₃ e (wrote_more d at name d₁ from value d₂ end w v (omega arith)) u h
