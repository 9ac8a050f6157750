-- The invariant: reading the whole piece gives what reading the rest of it gives from where we are. The lengths stay.
-- The rest of the piece shrinks. Assumes nothing.
use Rattle.std.proofs.Common.{◌≡◌, ◌-◌, ◌≤◌, length, drop, sym, refl, ◌∙◌, arith}
use Rattle.replay_script.proofs.Laws.{found_le, never}
use Rattle.replay.specs.Script.{read, reading_of}
use Rattle.replay.proofs.Laws.{read_none, piece_end, piece_on}
use Rattle.replay.proofs.read_piece.Given as goal

abbrev pub invariant-loop-from : goal.invariant-loop-from
invariant-loop-from g l = (l.from ≤ length l.piece) × (length l.line ≡ length l.initial.line) × (length l.room ≡ length l.initial.room) × (length l.out ≡ length l.initial.out) × (read (length l.initial.line) l.piece (reading_of l.initial.q l.initial.line) ≡ read (length l.initial.line) (drop l.from l.piece) (reading_of l.q l.line))

abbrev pub decreases-loop-from : goal.decreases-loop-from
decreases-loop-from g l = length l.piece - l.from
