use Rattle.std.proofs.Common.{lit≤}
use Rattle.replay_lines.proofs.AnswerRoom.{answer_in}
use Rattle.replay_page.proofs.Room.{◌⊕◌, upto}
use Rattle.replay_signals.proofs.Room.{signals_in}
use Rattle.replay_given.specs.Turns.{laid, turn_room}
use Rattle.replay_given.proofs.put_outcome.Goals as goal

pub returns : goal.returns
unfolding laid
returns c = (rw (c.with_gate-host.ensures, ← c.put_answer-k.ensures, ← c.put_signals-k.ensures), let o = c.args.o in let h = c.well_formed.1.0.1.1 in upto turn_room (lit≤ tt) (answer_in o.answer _ h.0 ⊕ signals_in o.signals _ h.1.0))
