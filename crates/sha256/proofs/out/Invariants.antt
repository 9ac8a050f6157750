-- The bytes of the first i words are written.
use Rattle.std.proofs.Common.{◌≡◌, ◌*◌, length, take}
use Rattle.sha256.specs.Sha256.{bytes}
use Rattle.sha256.proofs.out.Given as goal

abbrev pub invariant-loop-i : goal.invariant-loop-i
invariant-loop-i l = (length l.r ≡ 32) × (take (4 * l.i) l.r ≡ bytes (take l.i l.fn.s))
