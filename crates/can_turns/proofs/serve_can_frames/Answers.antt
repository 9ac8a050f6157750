use mathlib.Core.Path.{◌≡◌, refl, ◌∙◌}
use native.Mathlib.Omega.{arith}
use borrow.Author.Rules.{rules}
use lib.ListN.{length}
use Rattle.arrays.proofs.Laws.{long_map}
use Rattle.state.specs.View.{lists_in}
use Rattle.can_turns.specs.Turns.{no_turn, turns}
use Rattle.can_turns.proofs.Laws.{turns_on, run_ends}
use Rattle.can_turns.proofs.serve_can_frames.Goals as goal

pub loop-init : goal.loop-init
unfolding turns
loop-init c = (omega (arith, c.min-n.ensures, c.requires), λ x e k d. e)

pub loop-preserved : goal.loop-preserved
unfolding turns
loop-preserved c =
    let loop = c.loop in
    (loop.invariant.0, λ x e k d. turns_on _ _ loop.counter loop.s _ x k d (omega arith) (loop.invariant.1 x e k d) c.turn-s.ensures)

pub returns : goal.returns
unfolding turns
returns c =
    let a = c.args in
    let loop = c.loop in
    let far : length a.all ≡ 16 = search (rules, long_map, c.well_formed) in
    let t = c.min-n.ensures in
    loop.invariant.1 (no_turn a.core a.q a.all) c.no_turn-s.ensures far refl ∙
    run_ends a.core (lists_in a.phones) a.q a.all a.turns a.clock loop.counter far (omega (arith, t, loop.invariant.0))
