use Rattle.std.proofs.Common.{sym, ◌∙◌, rules}
use Rattle.replay_played.proofs.Laws.{word_length, played_right, played_wrong}
use Rattle.replay_played.proofs.Room.{lent_most, right_in, wrong_in}
use Rattle.replay_player.proofs.play_line.Goals as goal

pub slice_bounds-name_of-end : goal.slice_bounds-name_of-end
slice_bounds-name_of-end c = word_length c.args.line.now _ c.name_end-e.ensures

pub slice_bounds-play_call-end : goal.slice_bounds-play_call-end
slice_bounds-play_call-end c = word_length c.args.line.now _ c.name_end-e.ensures

pub play_call-requires : goal.play_call-requires
play_call-requires c = lent_most c.args.line.now _ c.read-read.ensures.bytes c.requires.1

pub returns-then-takes : goal.returns-then-takes
returns-then-takes c =
    let call = c.play_call.ensures in
    let r = c.read-read.ensures in
    let right = sym c.takes.ensures ∙ c.if-takes.true in
    let t = played_right _ _ _ _ _ _ _ c.name_end-e.ensures c.name_of-name.ensures r.items _ r.bytes right _ call.0 in
    (t, r.memory, right_in c.args.h c.args.number c.ranges.number.fits _ _ _ _ c.name_end-e.ensures c.name_of-name.ensures r.items _ r.bytes right call.1)

pub returns-else-takes : goal.returns-else-takes
returns-else-takes c =
    let r = c.read-read.ensures in
    let wrong = sym c.takes.ensures ∙ c.if-takes.false in
    let t = played_wrong _ _ _ _ _ _ _ c.name_end-e.ensures c.name_of-name.ensures r.items wrong _ c.play_error.ensures in
    (t, r.memory, wrong_in c.args.h c.args.number c.ranges.number.fits _ _ _ _ c.name_end-e.ensures c.name_of-name.ensures r.items wrong)
