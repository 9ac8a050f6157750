use Rattle.std.proofs.Common.{◌≡◌, [], ap, ◌∙◌, sym, refl, arith}
use Rattle.phones.specs.Ids.{joined}
use Rattle.phones.specs.Phones.{phones_of, list_of}
use Rattle.phones.specs.declared.PhoneList.{PhoneList}
use Rattle.phones.proofs.Laws.{phones_of_list}
use Rattle.phones.proofs.Packing.new.Goals as goal

pub invariant_of-result : goal.invariant_of-result
unfolding joined list_of
invariant_of-result c =
    let none : phones_of c.empty_list.result ≡ [] = ap phones_of c.empty_list.ensures ∙ phones_of_list [] in
    record {
      canonical = c.empty_list.ensures ∙ ap list_of (sym none);
      ends = rw none refl;
      within = omega arith;
      few = omega (arith, ap (λ (l : PhoneList). l.count) c.empty_list.ensures);
    }

pub returns : goal.returns
returns c = ap phones_of c.empty_list.ensures ∙ phones_of_list []
