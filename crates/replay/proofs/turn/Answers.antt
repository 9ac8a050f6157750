-- If it goes on, the piece is what was read. Otherwise `going` is set to false. Assumes nothing.
use Rattle.replay_script.proofs.Laws.{never}
use Rattle.replay.proofs.turn.Goals as goal

pub returns-in-Ok : goal.returns-in-Ok
returns-in-Ok g c = λ going. record { piece = _; gives = c.read_piece.ensures going }

pub returns-in-Err : goal.returns-in-Err
returns-in-Err g c = λ going. never going
