use Rattle.replay_given.specs.Turns.{ran}
use Rattle.replay_given.proofs.Laws.{lays_as, laid_served, served_fits}
use Rattle.replay_given.proofs.put_served.Goals as goal

pub returns : goal.returns
unfolding ran
returns c =
    let h = c.args.h in
    let s = c.serve_can_frames-s in
    lays_as _ _ (laid_served h s.result.list s.ensures.rest s.result.ran _ s.ensures.gives) _ _ _
    (rw (c.with_gate-host.ensures, c.with_list-next.ensures, ← c.put_report-k.ensures, ← c.put_signals-k.ensures), served_fits h s.result.list s.result.ran _ s.type_inv.1.1.0)
