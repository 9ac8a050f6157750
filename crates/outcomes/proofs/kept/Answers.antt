use Rattle.outcomes.proofs.Laws.{put_save}
use Rattle.outcomes.proofs.kept.Goals as goal

pub returns : goal.returns
returns c =
    λ d m e. let a = c.args in
    rw c.no_signals.ensures (put_save a.g m d a.x e)
