use Rattle.std.proofs.Common.{◌≡◌, length, rules}
use Rattle.arrays.proofs.Laws.{long_map}
use Rattle.replay_host.proofs.Laws.{sends_sixteen, sends_other}
use Rattle.replay_host.proofs.send_can_frame.Goals as goal

pub returns-then-h-eq16 : goal.returns-then-h-eq16
returns-then-h-eq16 c =
    let s = c.send_sixteen-s in
    let few : length s.result.all ≡ 16 = search (rules, long_map, s.type_inv) in
    sends_sixteen c.args.h c.if-h-eq16.true _ c.sixteen.ensures _ _ _ _ s.result s.ensures few c.with_sixteen-list.ensures

pub returns-else-h-eq16 : goal.returns-else-h-eq16
returns-else-h-eq16 c =
    let h = c.args.h in
    let far : length h.list ≡ 17 = search (rules, long_map, c.well_formed.0) in
    sends_other h c.if-h-eq16.false far _ _ _ _ c.send_none-outcome.ensures
