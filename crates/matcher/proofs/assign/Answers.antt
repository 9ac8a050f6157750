use Rattle.std.proofs.Common.{false, length-set, arith}
use lib.ListN.{length-replicate}
use Rattle.matcher.proofs.Steps.{turn_first, turn_place, turn_stops, turn_again, turns_end}
use Rattle.matcher.proofs.assign.Goals as goal

pub loop-i-init : goal.loop-i-init
loop-i-init c = (length-replicate 512 false, turn_first _ _ 512)

pub bounds-seen-i : goal.bounds-seen-i
bounds-seen-i c = let s = c.requires.1.all in let h = c.loop-i-test.true in omega arith

pub first_fit-requires : goal.first_fit-requires
first_fit-requires c = c.requires.0

pub returns-in_default : goal.returns-in_default
returns-in_default c =
    turn_stops _ _ _ _ c.requires.0 c.requires.1 c.loop-i.used _ _ _ c.loop-i-test.true c.first_fit.ensures c.loop-i.invariant.1 c.in_default.is

pub bounds-used-e : goal.bounds-used-e
bounds-used-e c = turn_place _ _ _ _ c.requires.0 c.requires.1 c.loop-i.used _ _ _ c.loop-i-test.true c.first_fit.ensures _ c.in-Some.is

pub loop-i-preserved : goal.loop-i-preserved
loop-i-preserved c =
    (simp length-set c.loop-i.invariant.0, turn_again _ _ _ _ c.requires.0 c.requires.1 c.loop-i.used _ _ _ c.loop-i-test.true c.first_fit.ensures c.loop-i.invariant.1 _ c.loop-i.invariant.0 c.in-Some.is)

pub returns : goal.returns
returns c = turns_end _ _ _ _ c.requires.0 c.requires.1 c.loop-i.used _ c.loop-i-test.false c.loop-i.invariant.1
