-- What is left of a save, and a part of it.
use mathlib.Core.Path.{◌≡◌, refl, sym, ◌∙◌}
use mathlib.Core.Bool.{true, false}
use mathlib.Core.List.{List, [], ◌∷◌}
use Prim.Native.Nat.{ℕ, zero, suc, ◌+◌, ◌-◌, ◌≤◌, ◌<◌, min}
use native.Mathlib.Omega.{arith}
use borrow.Author.Tests.{eq-eqb, ne_eqb}
use lib.ListN.{length, take, drop, length-drop, length-take}
use lib.Seq.{take-take}
use Rattle.arrays.specs.Arrays.{put}
use Rattle.phones.specs.Ids.{becomes}
use Rattle.state.specs.declared.Save.{Save}
use Rattle.state.specs.declared.Answer.TheVariants.{Taken, NoSave}
use Rattle.state.specs.Checks.{checked}
use Rattle.save.specs.Save.{no_save, rest, behind, refused, taking}

pub rest_length : (s : Save) → length s.stored.bytes ≡ 4358 → length (rest s) ≡ min s.stored.len 4358 - s.at
unfolding rest
rest_length s far = length-drop s.at (take s.stored.len s.stored.bytes) ∙ rw (length-take, far)

-- behind `at` bytes the same stands in a list and in its beginning
part_of : (at n m : ℕ) (l : List ℕ) → at + n ≤ m → take n (drop at (take m l)) ≡ take n (drop at l)
part_of zero n m l h = take-take n m l (omega arith)
part_of (suc at) n zero l h = absurd (omega arith)
part_of (suc at) n (suc m) [] h = refl
part_of (suc at) n (suc m) (x ∷ xs) h = part_of at n m xs (omega arith)

-- so many bytes from the position on are so many of the rest
pub rest_part : (s : Save) (n : ℕ) → length s.stored.bytes ≡ 4358 → n ≤ length (rest s) → 0 < n → take (s.at + n - s.at) (drop s.at s.stored.bytes) ≡ take n (rest s)
unfolding rest
rest_part s n far h some =
    let l = rest_length s far in
    let e : s.at + n - s.at ≡ n = omega arith in
    rw e (sym (part_of s.at n s.stored.len s.stored.bytes (omega arith)))

pub put_none : (d : List ℕ) (n : ℕ) (l : List ℕ) → n ≤ 0 → d ≡ put d 0 (take n l)
unfolding put
put_none d zero l h = refl
put_none d (suc n) l h = absurd (omega arith)

-- ---- what a take comes to

module _ (s : Save) (out : List ℕ) where
  pub take_some : s.present ≡ true → length out < length (rest s)
      → taking s out ≡ record { answer = Taken (length out) false; save = behind s (length out); lent = becomes (put out 0 (take (length out) (rest s))) }
  unfolding taking checked rest put
  take_some p h =
      let n : min (length out) (length (rest s)) ≡ length out = omega arith in
      rw (p, n, ne_eqb (length out) (length (rest s)) (omega arith))

  pub take_all : s.present ≡ true → length (rest s) ≤ length out
      → taking s out ≡ record { answer = Taken (length (rest s)) true; save = no_save; lent = becomes (put out 0 (take (length (rest s)) (rest s))) }
  unfolding taking checked rest put no_save
  take_all p h =
      let n : min (length out) (length (rest s)) ≡ length (rest s) = omega arith in
      rw (p, n, eq-eqb (length (rest s)) (length (rest s)) refl)

  pub take_none : s.present ≡ false → taking s out ≡ refused s NoSave
  unfolding taking checked
  take_none p = rw p
