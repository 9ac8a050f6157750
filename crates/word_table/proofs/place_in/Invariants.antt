-- The invariant: n rows were passed, none of this name, and the word's place is n more than among the rows that are left.
use Rattle.std.proofs.Common.{◌≡◌, ◌+◌, ◌≤◌, length}
use Rattle.word_table.specs.Words.{lines_of, place_in}
use Rattle.word_table.proofs.place_in.Given as goal

abbrev pub invariant-loop-row : goal.invariant-loop-row
invariant-loop-row l = (l.n + length l.rows ≤ length l.text) × (place_in (lines_of 10 l.text) l.word ≡ l.n + place_in (lines_of 10 l.rows) l.word)

abbrev pub decreases-loop-row : goal.decreases-loop-row
decreases-loop-row l = length l.rows
