use Rattle.std.proofs.Common.{◌≡◌, true, rules}
use Rattle.replay_lines.specs.Fields.{put_fields}
use Rattle.replay_running.specs.Probe.{window}
use Rattle.replay_running.proofs.probe.put_window.Goals as goal

pub returns : goal.returns
unfolding put_fields window
returns c =
    let here : c.args.w.present ≡ true = search rules in
    rw (c.put_sent_list.ensures, c.put_fields-k-2.ensures, c.put_frame_list-k.ensures, c.put_fields-k.ensures, here)
