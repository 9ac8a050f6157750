-- h is the hash value after 25 blocks of "a" for each turn.
use Rattle.std.proofs.Common.{◌≡◌, ◌*◌, replicate}
use Rattle.sha256.specs.Sha256.{hash_from, H₀}
use Rattle.vectors.proofs.million.Given as goal

abbrev pub invariant-loop : goal.invariant-loop
invariant-loop l = (l.h ≡ hash_from H₀ (replicate (64 * (25 * l.counter)) 97) (25 * l.counter)) × (l.b ≡ replicate 1600 97)
