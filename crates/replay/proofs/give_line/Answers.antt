-- The three cases of `line_gives`. Assumes nothing.
use Rattle.std.proofs.Common.{ap, zero-le, arith, rules, le-ltb, lt-ltb}
use Rattle.replay.specs.Script.{line_in}
use Rattle.replay_played.proofs.Room.{too_long_in}
use Rattle.replay_given.specs.Turns.{Turn}
use Rattle.replay.proofs.Laws.{first_length_lem, first_room, inside}
use Rattle.replay.proofs.give_line.Goals as goal

pub returns-then-line-p : goal.returns-then-line-p
unfolding line_in
returns-then-line-p c = (rw (c.not_called.ensures, lt-ltb _ _ c.if-line-p.true, ← c.put_too_long-k.ensures), rw c.not_called.ensures (inside _ _ (too_long_in c.args.p.number c.well_formed.0.1.1.1.0.1) _ _ _ c.put_too_long-k.ensures (omega (arith, c.requires.1))))

pub slice_bounds-line-end : goal.slice_bounds-line-end
slice_bounds-line-end c = first_length_lem _ _ c.if-line-p.false

pub returns-then-is_passed_over : goal.returns-then-is_passed_over
unfolding line_in
returns-then-is_passed_over c = (rw (c.not_called-then-is_passed_over.ensures, le-ltb _ _ c.if-line-p.false, ← c.is_passed_over.ensures, c.if-is_passed_over.true), rw c.not_called-then-is_passed_over.ensures zero-le)

pub play-requires : goal.play-requires
play-requires c = let h = c.if-line-p.false in (first_room _ _ _ h c.requires.0, first_room _ _ _ h c.requires.2)

pub returns-else-is_passed_over : goal.returns-else-is_passed_over
unfolding line_in
returns-else-is_passed_over c =
    let l = c.play.ensures in
    (rw (le-ltb _ _ c.if-line-p.false, ← c.is_passed_over.ensures, c.if-is_passed_over.false) l.0, inside _ _ l.2 _ _ _ (ap (λ (t : Turn). t.page) l.0) c.requires.1)
