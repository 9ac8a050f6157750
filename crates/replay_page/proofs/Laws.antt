-- Laws of what is laid down.
use Rattle.std.proofs.Common.{◌≡◌, List, ℕ, zero, suc, ◌+◌, ◌-◌, ◌%◌, ◌^◌, ◌≤◌, ◌<◌, refl, lit<, arith, length, take, replicate}
use Rattle.std.proofs.lemmas.List.{length-replicate}
use Rattle.std.proofs.Math.Nat.{one-le-pow, pow-le-pow_right}
use Rattle.arrays.specs.Arrays.{put}
use Rattle.arrays.proofs.Laws.{put_take}
use Rattle.decimal.specs.Decimal.{decimal_of}
use Rattle.decimal.proofs.Laws.{decimal_length}
use Rattle.replay_page.specs.Page.{Page, digit_from}

-- a number of 64 bits has at most 20 digits
pub digits_fit : (n : ℕ) → n < 2 ^ 64 → length (decimal_of n) ≤ 20
digits_fit n h = decimal_length 19 n (omega arith)

-- a text laid down in front, read back
pub front : (n : ℕ) (d : List ℕ) (k : ℕ) (s : List ℕ) → length s ≤ n → k ≡ 0 + length s → d ≡ put (replicate n 0) 0 s → take k d ≡ s
front n d k s h e f = rw (e, f) (put_take (replicate n 0) 0 s (rw length-replicate (omega arith)))

pub mod_twice : (n : ℕ) → n % 16 % 16 ≡ n % 16
mod_twice n = omega arith

-- ---- the hexadecimal digits of a number, from a place down to place 1

unfoldable pub digits_down : ℕ → ℕ → Page → Page
digits_down n zero p = p
digits_down n (suc i) p = digits_down n i (digit_from n (16 ^ suc i) p)

pub unit_fits : (i : ℕ) → i ≤ 7 → 16 ^ i < 4294967296
unit_fits i h = omega (arith, pow-le-pow_right {n = 16} (lit< tt) h)

pub unit_some : (i : ℕ) → 0 < 16 ^ i
unit_some i = one-le-pow i 16 (lit< tt)

step : (n i j : ℕ) (p : Page) → i ≡ suc j → digits_down n i p ≡ digits_down n j (digit_from n (16 ^ i) p)
unfolding digits_down
step n i j p e = rw e refl

pub digits_on : (n i : ℕ) (p q : Page) → 1 ≤ i → q ≡ digit_from n (16 ^ i) p → digits_down n i p ≡ digits_down n (i - 1) q
digits_on n i p q h e = rw e (step n i (i - 1) p (omega arith))

pub digits_end : (n i : ℕ) (p : Page) → i ≡ 0 → digits_down n i p ≡ p
unfolding digits_down
digits_end n i p e = rw e refl
