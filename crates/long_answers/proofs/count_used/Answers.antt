use Rattle.std.proofs.Common.{◌≡◌, length, rules}
use lib.ListN.{length-take}
use Rattle.arrays.proofs.Laws.{long_map}
use Rattle.long_answers.proofs.count_used.Goals as goal

pub returns : goal.returns
returns c =
    let far : length c.args.m.list ≡ 8 = search (rules, long_map) in
    rw (length-take, far) c.min.ensures
