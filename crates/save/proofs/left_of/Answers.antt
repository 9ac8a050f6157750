use Rattle.std.proofs.Common.{◌≡◌, arith, rules, length}
use Rattle.save.proofs.Laws.{rest_length}
use Rattle.save.proofs.left_of.Goals as goal

pub returns : goal.returns
returns c =
    let s = c.args.s in
    let far : length s.stored.bytes ≡ 4358 = search rules in
    let l = rest_length s far in
    let m = c.min.ensures in
    let e = c.saturating_sub.ensures in
    omega arith
