-- What a program knows of what it read; the bytes are open.
use Rattle.std.specs.Prelude.{ℕ, ◌≤◌, Result, IfOk}

-- no more bytes than the buffer holds
abbrev pub Within : {E : Type 0} → ℕ → Result ℕ E → Type 0
Within size read = IfOk read (λ n. n ≤ size)
