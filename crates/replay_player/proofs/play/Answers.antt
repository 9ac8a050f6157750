use Rattle.replay_played.specs.Played.{with_state}
use Rattle.replay_played.proofs.Room.{line_fits}
use Rattle.std.proofs.Common.{rules}
use Rattle.replay_player.proofs.play.Goals as goal
use Rattle.replay_player.proofs.play.Goals.{else-states-via-then-states+else-r, else-states-via-else-states}

pub play_line-r-requires : goal.play_line-r-requires
unfolding with_state
play_line-r-requires c = search rules

pub returns-then-r : goal.returns-then-r
unfolding with_state
returns-then-r c = let f = c.play_line-r in let l = f.ensures in (rw (← l.0, c.if-states.true, c.if-r.true, ← c.put_state.ensures), l.1, line_fits c.args.states c.args.number c.ranges.number.fits c.args.h _ _ _ f.result l.0 l.2 _ f.type_inv)

pub returns-else-states : goal.returns-else-states
unfolding with_state
returns-else-states c =
    let f = c.play_line-r in
    let l = f.ensures in
    let fits = line_fits c.args.states c.args.number c.ranges.number.fits c.args.h _ _ _ f.result l.0 l.2 _ f.type_inv in
    elim c.else-states.branch [
      | else-states-via-then-states+else-r w ↦ (rw (← l.0, w.if-states.true, w.if-r.false), l.1, fits)
      | else-states-via-else-states w ↦ (rw (← l.0, w.if-states.false), l.1, fits)
    ]
