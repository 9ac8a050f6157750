use Rattle.std.proofs.Common.{◌≡◌, ap, ◌∙◌, sym, arith, rules, length}
use Rattle.phones.specs.Ids.{pushed}
use Rattle.phones.specs.Phones.{list_of}
use Rattle.phones.proofs.Laws.{append_full, phones_length}
use Rattle.phones.proofs.append.Goals as goal

pub returns-then-l-ge32 : goal.returns-then-l-ge32
returns-then-l-ge32 c =
    let far : length c.args.l.lens ≡ 32 = search rules in
    sym (append_full _ _ (rw (phones_length c.args.l far) (let full = c.if-l-ge32.true in omega arith)))

pub returns-then-has_room : goal.returns-then-has_room
unfolding pushed
returns-then-has_room c =
    rw (← c.used-id.ensures.value, ← c.of-packing.ensures, ← c.if-has_room.ensures) (c.push.new.self.canonical ∙ ap list_of c.push.ensures)

pub returns-else-has_room : goal.returns-else-has_room
unfolding pushed
returns-else-has_room c = rw (← c.used-id.ensures.value, ← c.of-packing.ensures, ← c.if-has_room.ensures)
