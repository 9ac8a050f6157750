-- What is printed lies in the memory. Assumes nothing.
use Rattle.replay.proofs.Laws.{first_length_lem}
use Rattle.std.proofs.Common.{rules}
use Rattle.replay.proofs.print.Goals as goal

pub slice_bounds-write_all-end : goal.slice_bounds-write_all-end
slice_bounds-write_all-end g c = first_length_lem _ _ c.requires
