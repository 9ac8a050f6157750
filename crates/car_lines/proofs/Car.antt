-- The lines of a car, one after the other.
use Rattle.std.proofs.Common.{◌≡◌, List, ◌++◌, ℕ, ◌+◌, ◌≤◌, arith, length, length-append}
use Rattle.ascii.specs.Ascii.{ascii}
use Rattle.decimal.specs.Decimal.{decimal_of}
use Rattle.hexadecimal.specs.Hex.{hex_of}
use Rattle.saved_record.specs.SavedRecord.{CarIds}
use Rattle.car_lines.specs.Lines.{line, phone_lines, car_lines}
use Rattle.car_lines.specs.Walk.{Wrote}
use Rattle.car_lines.proofs.Laws.{wrote_more}

pub lines_parts : (c : CarIds)
    → length (car_lines c) ≡ length (line (ascii "car=") (hex_of c.car)) + length (line (ascii "phones=") (decimal_of (length c.phones))) + length (phone_lines c.phones)
unfolding car_lines
lines_parts c =
    let a₁ = line (ascii "car=") (hex_of c.car) in
    let a₂ = line (ascii "phones=") (decimal_of (length c.phones)) in
    omega (arith, length-append (a₁ ++ a₂) (phone_lines c.phones), length-append a₁ a₂)

pub car_written : (dst : List ℕ) (at : ℕ) (c : CarIds) (d₁ d₂ d₃ : List ℕ) (e₁ e₂ e₃ : ℕ)
    → Wrote dst at (line (ascii "car=") (hex_of c.car)) d₁ e₁ → Wrote d₁ e₁ (line (ascii "phones=") (decimal_of (length c.phones))) d₂ e₂ → Wrote d₂ e₂ (phone_lines c.phones) d₃ e₃
    → at + length (car_lines c) ≤ length dst → Wrote dst at (car_lines c) d₃ e₃
unfolding car_lines
car_written dst at c d₁ d₂ d₃ e₁ e₂ e₃ w₁ w₂ w₃ h =
    let x₁ = line (ascii "car=") (hex_of c.car) in
    let x₂ = line (ascii "phones=") (decimal_of (length c.phones)) in
    let x₃ = phone_lines c.phones in
    let l = length-append (x₁ ++ x₂) x₃ in
    wrote_more dst at (x₁ ++ x₂) d₂ e₂ x₃ d₃ e₃ (wrote_more dst at x₁ d₁ e₁ x₂ d₂ e₂ w₁ w₂ (omega arith)) w₃ h
