-- The times of a session and its number (validation.rs; 01, Sessions and codes).
use Rattle.std.specs.Prelude.{ℕ, ◌+◌, ◌-◌, ◌/◌, ◌%◌, ◌^◌, cond, ◌==◌, nat_lt}

-- a clock plus a span, at most 2^64 - 1
unfoldable pub saturating_add : ℕ → ℕ → ℕ
saturating_add clock span = cond (nat_lt (clock + span) (2 ^ 64)) (clock + span) (2 ^ 64 - 1)

-- seconds left: rounded up, 0 if passed, modulo 2^32
unfoldable pub seconds_to : ℕ → ℕ → ℕ
seconds_to until clock = (until - clock + 999) / 1_000 % 2 ^ 32

-- after 4,294,967,295 the next session number is 1
unfoldable pub next_number : ℕ → ℕ
next_number n = cond ((n + 1) % 2 ^ 32 == 0) 1 ((n + 1) % 2 ^ 32)
