use Rattle.state.specs.View.{view}
use Rattle.outcomes.proofs.Laws.{put_stored}
use Rattle.outcomes.proofs.ended.Goals as goal

pub returns : goal.returns
unfolding view
returns c =
    let a = c.args in
    rw (c.put.ensures, c.sending-signals.ensures, c.stored_if-s.ensures, c.raised_by-raised.ensures)
    (put_stored a.g a.e.said a.e.validates _ _ c.validated_by-store.ensures)
