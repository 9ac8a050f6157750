-- The first t words of w are those of the schedule, and v is the working variables after t rounds.
use Rattle.std.proofs.Common.{◌≡◌, ◌%◌, ◌≤◌}
use Rattle.sha256_block.specs.Block.{M}
use Rattle.sha256_block.proofs.Laws.{Held}
use Rattle.sha256_block.proofs.working.Given as goal

abbrev pub invariant-loop-t : goal.invariant-loop-t
invariant-loop-t l = (l.t ≤ 16) × (l.t % 8 ≡ 0) × Held (M l.m l.i) l.fn.s l.w l.v l.t

abbrev pub invariant-loop-t-2 : goal.invariant-loop-t-2
invariant-loop-t-2 l = (l.t ≤ 64) × (l.t % 8 ≡ 0) × Held (M l.m l.i) l.fn.s l.w l.v l.t
