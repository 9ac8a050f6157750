-- A count above 32 counts as 32.
use borrow.Author.Rules.{rules}
use mathlib.Core.Path.{◌≡◌, sym, ◌∙◌}
use lib.ListN.{length}
use Rattle.phones.proofs.Laws.{phones_length}
use Rattle.phones.proofs.count.Goals as goal

pub returns : goal.returns
returns c =
    let far : length c.args.l.lens ≡ 32 = search rules in
    c.clamp.ensures ∙ sym (phones_length c.args.l far)
