-- The strings are the same if nothing differed so far and what is left of them is the same.
use Rattle.std.proofs.Common.{◌≡◌, eqb, cond, false, length, drop}
use Rattle.arrays.specs.Arrays.{same_bytes}
use Rattle.text.proofs.same_all.Given as goal

abbrev pub invariant-loop-x : goal.invariant-loop-x
invariant-loop-x l = same_bytes l.a l.b ≡ cond (eqb l.differ 0) (same_bytes (drop (length l.yielded) l.a) (drop (length l.yielded) l.b)) false
