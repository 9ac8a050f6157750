-- The invariant: as many stand before the first b from `at` on, as were passed and stand before it from i on.
use Rattle.std.proofs.Common.{◌≡◌, ◌+◌, drop}
use Rattle.word_table.specs.Words.{before}
use Rattle.word_table.proofs.end_of.Given as goal

abbrev pub invariant-loop-i : goal.invariant-loop-i
invariant-loop-i l = l.at + before l.b (drop l.at l.text) ≡ l.i + before l.b (drop l.i l.text)
