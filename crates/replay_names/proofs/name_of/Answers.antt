-- The lines of the text are the words of the list, which antt computes.
use Rattle.word_table.specs.Words.{lines_of}
use Rattle.replay_names.specs.Names.{table, rows}
use Rattle.replay_names.proofs.name_of.Goals as goal

pub returns : goal.returns
unfolding lines_of rows table
returns c = c.place_in.ensures
