use Rattle.replay_given.specs.Turns.{ran}
use Rattle.replay_given.proofs.Laws.{lays_as, laid_sent}
use Rattle.replay_given.proofs.put_sent.Goals as goal

pub returns : goal.returns
unfolding ran
returns c =
    let s = c.send_can_frame-s in
    lays_as _ _ (laid_sent c.args.h s.result.list s.ensures.rest s.result.outcome _ s.ensures.gives) _ _ _ (rw c.with_list-next.ensures at c.put_outcome.ensures)
