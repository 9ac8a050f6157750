-- The invariant: the row at n is the row at n - counter of the rows that are left.
use Rattle.std.proofs.Common.{◌≡◌, [], ◌-◌, get_or}
use Rattle.word_table.specs.Words.{lines_of}
use Rattle.word_table.proofs.row_at.Given as goal

abbrev pub invariant-loop : goal.invariant-loop
invariant-loop l = get_or (lines_of 10 l.text) l.n [] ≡ get_or (lines_of 10 l.rows) (l.n - l.counter) []
