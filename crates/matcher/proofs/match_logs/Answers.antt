-- Where no refusal comes the assignment is the verdict, since the times never fall.
use Rattle.std.proofs.Common.{◌≡◌, ◌∙◌, ap, Ok, length, rules}
use Rattle.matcher.specs.Match.{match_of, entries_of}
use Rattle.matcher.proofs.Steps.{sized, rising_entries}
use Rattle.matcher.proofs.Right.{greedy_right}
use Rattle.matcher.proofs.match_logs.Goals as goal

pub assign-requires : goal.assign-requires
assign-requires c =
    let a = c.args in
    let fj : length a.journal.frames ≡ 512 = search rules in
    let fr : length a.recorder.frames ≡ 512 = search rules in
    let j = c.in_ok-check_size.ensures in
    let r = c.in_ok-check_size-2.ensures in
    (sized a.journal a.journal_times.now fj j.1 j.2, sized a.recorder a.recorder_times.now fr r.1 r.2)

pub returns : goal.returns
unfolding match_of entries_of
returns c =
    let a = c.args in
    let j = c.in_ok-check_size.ensures in
    let r = c.in_ok-check_size-2.ensures in
    let s = c.in_ok-check_times.ensures in
    let t = c.in_ok-check_times-2.ensures in
    rw (j.0, r.0, s, t) (ap Ok (c.assign.ensures ∙ greedy_right _ _ (rising_entries a.journal a.journal_times.now s) (rising_entries a.recorder a.recorder_times.now t)))
