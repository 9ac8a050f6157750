use Rattle.std.proofs.Common.{◌≡◌, ap, ◌∙◌, Bool, map, rules, List, ℕ}
use borrow.Author.Tests.{tests}
use Rattle.phones.specs.Ids.{contains, retain_in}
use Rattle.phones.specs.Phones.{phones_of}
use Rattle.list_removals.proofs.Marks.{keep_marked, marked_at}
use Rattle.list_removals.proofs.retain_in.Goals as goal

pub returns : goal.returns
unfolding retain_in
returns c =
    let f : List ℕ → Bool = λ p. contains p (phones_of c.args.other) in
    let ps = phones_of c.args.l in
    rw (← keep_marked f ps) (c.keeping.ensures (map f ps) (λ i id b h e k. let says : b ≡ f id.now = search (rules, tests) in says ∙ ap f e ∙ marked_at f ps i h))
