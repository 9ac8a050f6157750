use Rattle.std.proofs.Common.{◌≡◌, ◌∙◌, not, eqb, arith, rules}
use borrow.Author.Tests.{tests}
use Rattle.phones.specs.Phones.{phones_of}
use Rattle.list_removals.proofs.Marks.{first_marks, all_but, all_but_at, none_removed}
use Rattle.list_removals.proofs.remove_first.Goals as goal

pub returns-in-Some : goal.returns-in-Some
returns-in-Some c =
    let ps = phones_of c.args.l in
    let s = c.args.s.now in
    let at = rw c.ids.ensures.value at c.in-Some.ensures in
    rw (first_marks s ps _ at (omega (arith, c.ids.ensures.few)))
    (c.keeping.ensures (all_but c.in-Some.first) (λ i id b h e k. let says : b ≡ not (eqb i c.in-Some.first) = search (rules, tests) in says ∙ all_but_at s ps i _ at (omega (arith, c.ids.ensures.few))))

pub returns-in-None : goal.returns-in-None
returns-in-None c =
    let ps = phones_of c.args.l in
    let at = rw c.ids.ensures.value at c.in-None.ensures in
    rw (none_removed c.args.s.now ps at) c.canonical.ensures
