-- The pairs are at most 32.
use Rattle.std.proofs.Common.{◌≡◌, length, sym, arith, rules, length-take-le}
use Rattle.text_cases.proofs.Laws.{pairs_fit}
use Rattle.text_cases.proofs.case.Goals as goal

pub slice_bounds-verdict_of-end : goal.slice_bounds-verdict_of-end
slice_bounds-verdict_of-end g c =
    let bytes = c.bytes_of-bytes.result in
    let far : length bytes ≡ 32 = search rules in
    sym (length-take-le c.pairs-n.result bytes (omega (arith, c.pairs-n.ensures, pairs_fit)))
