use Rattle.std.proofs.Common.{◌≡◌, ap, ◌∙◌, Bool, not, map, rules, List, ℕ}
use borrow.Author.Tests.{tests}
use Rattle.arrays.specs.Arrays.{same_bytes}
use Rattle.phones.specs.Ids.{remove_all}
use Rattle.phones.specs.Phones.{phones_of}
use Rattle.list_removals.proofs.Marks.{keep_marked, marked_at}
use Rattle.list_removals.proofs.remove_all.Goals as goal

pub returns : goal.returns
unfolding remove_all
returns c =
    let f : List ℕ → Bool = λ p. not (same_bytes p c.args.s.now) in
    let ps = phones_of c.args.l in
    rw (← keep_marked f ps) (c.keeping.ensures (map f ps) (λ i id b h e k. let says : b ≡ f id.now = search (rules, tests) in says ∙ ap f e ∙ marked_at f ps i h))
