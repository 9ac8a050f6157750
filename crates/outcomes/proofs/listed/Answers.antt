use Rattle.outcomes.proofs.Laws.{put_lists}
use Rattle.outcomes.proofs.listed.Goals as goal

pub returns : goal.returns
returns c =
    λ d e. let a = c.args in
    rw (c.sending-signals.ensures, c.stored_if-s.ensures) (put_lists a.g d a.x e)
