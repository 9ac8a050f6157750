use Rattle.std.proofs.Common.{◌≡◌, ◌≤◌, arith, unwrap_or}
use Rattle.std.proofs.lemmas.List.{get_or_past}
use Rattle.replay_calls.specs.Calls.{unknown, host_lines, host_line}
use Rattle.replay_items.specs.Bytes.{lent_bytes}
use Rattle.replay_items.specs.Values.{no_frame}
use Rattle.replay_page.proofs.Room.{same}
use Rattle.replay_given.specs.Turns.{ran, turn_room}
use Rattle.replay_given.proofs.run_host.Goals as goal

pub returns-in-0 : goal.returns-in-0
unfolding ran lent_bytes host_line host_lines
returns-in-0 c =
    let f : c.unwrap_or-frame.result ≡ unwrap_or c.args.i.frame no_frame = c.unwrap_or-frame.ensures in
    rw (c.in-0.is, ← c.lent-owner.ensures, ← f, ← c.unwrap_or-class.ensures) c.put_sent.ensures

pub returns-in-1 : goal.returns-in-1
unfolding ran lent_bytes host_line host_lines
returns-in-1 c = rw (c.in-1.is, ← c.unwrap_or-turns.ensures, ← c.unwrap_or-clock.ensures) c.put_served.ensures

pub returns-in-2 : goal.returns-in-2
unfolding ran lent_bytes host_line host_lines
returns-in-2 c = rw (c.in-2.is, ← c.unwrap_or-length.ensures) (rw c.with_lent.ensures at c.put_done.ensures)

pub returns-in-3 : goal.returns-in-3
unfolding ran lent_bytes host_line host_lines
returns-in-3 c =
    let f : c.unwrap_or-frame.result ≡ unwrap_or c.args.i.frame no_frame = c.unwrap_or-frame.ensures in
    rw (c.in-3.is, ← c.lent-owner.ensures, ← f, ← c.unwrap_or-class.ensures, ← c.unwrap_or-slot.ensures)
    (rw (c.with_record.ensures, c.record_of-w.ensures) at c.put_done-in-3.ensures)

pub returns-in-4 : goal.returns-in-4
unfolding ran lent_bytes host_line host_lines
returns-in-4 c = rw c.in-4.is c.put_list.ensures

pub returns-in_default : goal.returns-in_default
unfolding ran host_line host_lines
returns-in_default c =
    let a = c.args in
    let h : 5 ≤ a.name = omega arith in
    rw (get_or_past (host_lines a.i (lent_bytes a.p a.room.now)) _ unknown h) (rw c.not_called.ensures, same turn_room)
