-- The invariant: what is asked of all words and the count is asked of the words that are left and what is left of the count.
use Rattle.std.proofs.Common.{◌≡◌, length}
use Rattle.word_table.specs.Words.{lines_of, rest_of}
use Rattle.replay_names.specs.Names.{exactly}
use Rattle.replay_names.proofs.has_all.Given as goal

abbrev pub invariant-loop-word : goal.invariant-loop-word
invariant-loop-word l = exactly (lines_of 10 l.keys) l.right l.many l.count (lines_of 32 (rest_of l.row)) ≡ exactly (lines_of 10 l.keys) l.right l.many l.left (lines_of 32 l.words)

abbrev pub decreases-loop-word : goal.decreases-loop-word
decreases-loop-word l = length l.words
