use Rattle.std.proofs.Common.{lit≤}
use Rattle.replay_frames.proofs.Room.{lent_list_in}
use Rattle.replay_page.proofs.Room.{◌⊕◌, upto}
use Rattle.replay_given.specs.Turns.{ran, turn_room}
use Rattle.replay_given.proofs.put_list.Goals as goal

pub returns : goal.returns
unfolding ran
returns c =
    let k = c.put_calm.ensures in
    let list = c.well_formed.0.1.1.1 in
    (rw (← c.put_lent_list-k.ensures) k.0, upto turn_room (lit≤ tt) (lent_list_in c.args.h.list c.args.h.lent list.1.0.1 _ list.0.1.1 ⊕ k.1))
