-- A length above 32 counts as 32.
use Rattle.std.proofs.Common.{◌≡◌, length}
use borrow.Author.Rules.{rules}
use Rattle.phones.proofs.Laws.{bytes_used}
use Rattle.phones.proofs.ShortId.used.Goals as goal

pub returns-clause-value : goal.returns-clause-value
returns-clause-value c =
    let p = c.args.self.now in
    let far : length p.bytes ≡ 32 = search rules in
    bytes_used p _ far c.min.ensures
