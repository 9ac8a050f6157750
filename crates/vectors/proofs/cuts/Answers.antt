-- No cut gives another digest.
use Rattle.std.proofs.Common.{sym, ap, ◌∙◌, not}
use Rattle.std.proofs.lemmas.Bool.{false≢true}
use Rattle.std.proofs.lemmas.Slice.Eq.{bytes_eq-Decides}
use Rattle.vectors.proofs.Cut.{same_cut}
use Rattle.vectors.proofs.cuts.Goals as goal

pub returns-then-ne : goal.returns-then-ne
returns-then-ne c =
    let same = (bytes_eq-Decides c.sha256_of_two.result c.sha256-whole.result).1
    (same_cut c.args.m.now c.loop-i.i c.requires c.loop-i-test.true c.sha256-whole.ensures c.sha256_of_two.ensures) in
    absurd (false≢true (sym (ap not same) ∙ sym c.ne.ensures ∙ c.if-ne.true))
