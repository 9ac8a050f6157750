-- Each arm: its number, the bytes and the items that it takes, and what is made of it.
use Rattle.std.proofs.Common.{◌≤◌, arith, lit≤}
use Rattle.replay_calls.specs.Calls.{other_lines, rest_lines, rest_line}
use Rattle.replay_calls.proofs.Laws.{rest_host}
use Rattle.replay_items.specs.Bytes.{lent_bytes}
use Rattle.replay_page.proofs.Room.{◌⊕◌, upto}
use Rattle.replay_state.proofs.Room.{gate_in}
use Rattle.replay_given.specs.Turns.{laid, ran, turn_room}
use Rattle.replay_steps.proofs.run_rest.Goals as goal

pub put_conversion-k-requires : goal.put_conversion-k-requires
unfolding lent_bytes
put_conversion-k-requires c = rw c.lent-lent.ensures c.requires

pub put_take-requires : goal.put_take-requires
unfolding lent_bytes
put_take-requires c = rw c.lent-lent.ensures c.requires

pub returns-in-0 : goal.returns-in-0
unfolding ran laid rest_line rest_lines other_lines
returns-in-0 c = rw (c.in-0.is, ← c.unwrap_or-next.ensures, ← c.unwrap_or-relocks.ensures) (rw c.with_counters-set.ensures at c.put_done.ensures)

pub returns-in-1 : goal.returns-in-1
unfolding ran rest_line rest_lines other_lines
returns-in-1 c = rw c.in-1.is (rw (c.not_called.ensures, c.put_gate-k.ensures), upto turn_room (lit≤ tt) (gate_in c.args.h.gate _ c.well_formed.0.1.1.0))

pub returns-in-2 : goal.returns-in-2
unfolding ran lent_bytes rest_line rest_lines other_lines
returns-in-2 c =
    let k = c.put_calm.ensures in
    let v = c.put_conversion-k.ensures in
    rw (c.in-2.is, ← c.lent-saved.ensures, ← c.lent-lent.ensures, ← c.unwrap_or-two.ensures) (rw (← v.0) k.0, upto turn_room (lit≤ tt) (v.1 ⊕ k.1))

pub returns-in-3 : goal.returns-in-3
unfolding lent_bytes rest_line rest_lines other_lines
returns-in-3 c = rw (c.in-3.is, ← c.lent-lent.ensures) c.put_take.ensures

pub returns-in_default : goal.returns-in_default
returns-in_default c =
    let a = c.args in
    let h : 4 ≤ a.name = omega arith in
    rw (rest_host a.i (lent_bytes a.p a.room.now) a.name h) c.run_host.ensures
