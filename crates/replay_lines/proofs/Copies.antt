-- A copy of lent bytes, of which as many were lent in their place and left otherwise.
use Rattle.std.proofs.Common.{◌≡◌, sym, ap, ◌∙◌, List, ◌++◌, ℕ, ◌≤◌, arith, length, take, drop, length-append}
use lib.Seq.{take_at}

module _ (lent copy left : List ℕ) (copied : take (length lent) copy ≡ lent) (kept : length left ≡ length (take (length lent) copy)) where
  left_length : length left ≡ length lent
  left_length = kept ∙ ap length copied

  pub left_few : (n : ℕ) → length lent ≤ n → length left ≤ n
  left_few n h = omega (arith, left_length)

  pub left_inside : length lent ≤ length (left ++ drop (length lent) copy)
  left_inside = rw length-append (omega (arith, left_length))

  pub left_back : take (length lent) (left ++ drop (length lent) copy) ≡ left
  left_back = take_at left _ _ left_length

  pub left_whole : length lent ≡ length (take (length lent) (left ++ drop (length lent) copy))
  left_whole = rw left_back (sym left_length)
