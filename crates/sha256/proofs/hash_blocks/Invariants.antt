-- s is the hash value after i blocks.
use Rattle.std.proofs.Common.{◌≡◌}
use Rattle.sha256.specs.Sha256.{hash_from}
use Rattle.sha256.proofs.hash_blocks.Given as goal

abbrev pub invariant-loop-i : goal.invariant-loop-i
invariant-loop-i l = l.s ≡ hash_from l.fn.h l.m l.i
