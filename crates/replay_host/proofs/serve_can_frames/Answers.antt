use Rattle.std.proofs.Common.{◌≡◌, length, rules}
use Rattle.arrays.proofs.Laws.{long_map}
use Rattle.replay_host.proofs.Laws.{serves_sixteen, serves_other}
use Rattle.replay_host.proofs.serve_can_frames.Goals as goal

pub returns-then-h-eq16 : goal.returns-then-h-eq16
returns-then-h-eq16 c =
    let s = c.serve_sixteen-s in
    let few : length s.result.all ≡ 16 = search (rules, long_map, s.type_inv) in
    serves_sixteen c.args.h c.if-h-eq16.true _ c.sixteen.ensures _ _ _ s.result s.ensures few c.with_sixteen-list.ensures

pub returns-else-h-eq16 : goal.returns-else-h-eq16
returns-else-h-eq16 c =
    let h = c.args.h in
    let far : length h.list ≡ 17 = search (rules, long_map, c.well_formed.0) in
    serves_other h c.if-h-eq16.false far _ _ _ c.serve_none-ran.ensures
