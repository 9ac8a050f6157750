-- The lines of the two texts are the rows and the keys, which antt computes.
use Rattle.word_table.specs.Words.{lines_of}
use Rattle.replay_names.specs.Names.{table, key_names, rows, keys}
use Rattle.replay_names.proofs.name_takes.Goals as goal

pub returns : goal.returns
unfolding lines_of table key_names rows keys
returns c = c.row_takes.ensures
