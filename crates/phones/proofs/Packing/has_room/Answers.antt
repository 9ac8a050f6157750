use Rattle.std.proofs.Common.{◌≡◌, ap, arith, length}
use Rattle.std.proofs.lemmas.Grind.{common_steps}
use Rattle.phones.specs.Ids.{room_for}
use Rattle.phones.specs.Phones.{phones_of, list_of}
use Rattle.phones.specs.declared.PhoneList.{PhoneList}
use Rattle.phones.proofs.Packing.has_room.Goals as goal

pub returns-then-self-lt32 : goal.returns-then-self-lt32
unfolding room_for list_of
returns-then-self-lt32 c =
    let p = c.args.self.now in
    let count : p.list.count ≡ length (phones_of p.list) = ap (λ (l : PhoneList). l.count) p.canonical in
    let ends = p.ends in
    grind (arith, common_steps)

pub returns-else-self-lt32 : goal.returns-else-self-lt32
unfolding room_for list_of
returns-else-self-lt32 c =
    let p = c.args.self.now in
    let count : p.list.count ≡ length (phones_of p.list) = ap (λ (l : PhoneList). l.count) p.canonical in
    grind (arith, common_steps)
