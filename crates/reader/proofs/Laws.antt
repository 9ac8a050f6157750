-- A field by what remains of the record at its place.
use Rattle.std.proofs.Common.{◌≡◌, ℕ, ◌+◌, ◌-◌, ◌≤◌, List, ◌∷◌, length, get_or, drop, suc, ap, sym, ◌∙◌, arith, length-drop, add-zero, Ok, lt-ltb, le-ltb}
use Rattle.std.proofs.lemmas.Bool.Decides.{nat_tests}
use Rattle.std.proofs.Math.Seq.{get_or-drop}
use Rattle.reader.specs.declared.Field.{Field}
use Rattle.reader.specs.Reader.{field_of, field_at}

-- a length byte that as many bytes follow
pub field_whole : (s : List ℕ) (at n : ℕ) (rest : List ℕ) → drop at s ≡ n ∷ rest → n ≤ length rest → field_at s at ≡ field_of (at + 1) n
unfolding field_at
field_whole s at n rest e h =
    let l : length s - at ≡ suc (length rest) = sym (length-drop at s) ∙ ap length e in
    let b : get_or s at 0 ≡ n = ap (λ (k : ℕ). get_or s k 0) (sym (add-zero at)) ∙ sym (get_or-drop at s 0 0) ∙ ap (λ (x : List ℕ). get_or x 0 0) e in
    rw (lt-ltb at (length s) (omega arith), b, le-ltb (length s - (at + 1)) n (omega arith))

-- a whole field lies inside the record
pub field_inside : (s : List ℕ) (at : ℕ) (f : Field) → field_at s at ≡ Ok f → f.start + f.len ≤ length s
unfolding field_at
field_inside s at f e = grind (arith, nat_tests)
