-- antt counts the rows.
use mathlib.Core.Path.{refl}
use Rattle.replay_names.specs.Names.{table, rows}
use Rattle.replay_names.proofs.is_name.Goals as goal

pub returns : goal.returns
unfolding table rows
returns c = refl
