use Rattle.std.proofs.Common.{◌∙◌}
use Rattle.match_logs.proofs.Logs.{both_read}
use Rattle.match_logs.proofs.texts.match_texts.Goals as goal

pub returns : goal.returns
returns c =
    let j = c.in_ok-j.ensures in
    let r = c.in_ok-r.ensures in
    c.match_logs.ensures ∙ both_read c.args.journal.now c.args.recorder.now c.in_ok-j.j c.in_ok-r.r j.0 r.0 j.1 r.1 j.2 r.2
