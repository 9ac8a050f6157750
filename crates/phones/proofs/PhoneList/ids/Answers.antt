-- A count above 32 counts as 32.
use Rattle.std.proofs.Common.{arith, ◌≡◌, length, ap, List, ℕ}
use borrow.Author.Rules.{rules}
use Rattle.phones.specs.Phones.{ids_in, phones_of}
use Rattle.phones.proofs.Laws.{lens_used}
use Rattle.phones.proofs.Owned.{owned_count}
use Rattle.phones.proofs.Build.{ends_within}
use Rattle.phones.proofs.PhoneList.ids.Goals as goal

pub returns-clause-value : goal.returns-clause-value
unfolding phones_of
returns-clause-value c =
    let l = c.args.self.now in
    let far : length l.lens ≡ 32 = search rules in
    ap (λ (ns : List ℕ). ids_in ns l.bytes) (lens_used l _ far c.min.ensures)

pub returns-clause-few : goal.returns-clause-few
returns-clause-few c =
    let l = c.args.self.now in
    let far : length l.lens ≡ 32 = search rules in
    omega (arith, owned_count l far)

pub returns-clause-within : goal.returns-clause-within
returns-clause-within c =
    let l = c.args.self.now in
    let far : length l.bytes ≡ 1024 = search rules in
    omega (arith, ends_within l far)
