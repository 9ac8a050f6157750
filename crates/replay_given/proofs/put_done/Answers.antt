use Rattle.std.proofs.Common.{lit≤}
use Rattle.replay_frames.proofs.Room.{done_in}
use Rattle.replay_page.proofs.Room.{◌⊕◌, upto}
use Rattle.replay_given.specs.Turns.{turn_room}
use Rattle.replay_given.proofs.put_done.Goals as goal

pub returns : goal.returns
returns c = let k = c.put_calm.ensures in (rw (← c.put_answer-k.ensures) k.0, upto turn_room (lit≤ tt) (done_in ⊕ k.1))
