use Rattle.outcomes.proofs.Laws.{put_core}
use Rattle.outcomes.proofs.drew.Goals as goal

pub returns : goal.returns
returns c =
    let a = c.args in
    rw (c.put.ensures, c.sending-signals.ensures, c.no_stored.ensures, c.raised_by-raised.ensures) (put_core a.g a.drawn a.said)
