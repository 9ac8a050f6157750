use Rattle.std.proofs.Common.{◌≡◌, ◌++◌, ◌∷◌, [], arith, rules, length, length-append, ◌+◌}
use Rattle.phones.specs.Ids.{joined}
use Rattle.phones.specs.Phones.{phones_of}
use Rattle.phones.proofs.Laws.{joined_snoc}
use Rattle.phones.proofs.Build.{room_is, pushed_is, laid_ids, laid_canonical, laid_count}
use Rattle.phones.proofs.Packing.push.Goals as goal

pub put-requires : goal.put-requires
put-requires c =
    let p = c.args.self.now in
    let room = room_is c.args.id.now (phones_of p.list) c.requires.room in
    let far : length p.list.bytes ≡ 1024 = search rules in
    omega (arith, p.ends)

pub bounds-self-self : goal.bounds-self-self
bounds-self-self c =
    let p = c.args.self.now in
    let room = room_is c.args.id.now (phones_of p.list) c.requires.room in
    omega (arith, laid_count p.list _ p.canonical)

pub invariant_of-self : goal.invariant_of-self
invariant_of-self c =
    let p = c.args.self.now in
    let id = c.args.id.now in
    let ps = phones_of p.list in
    let room = room_is id ps c.requires.room in
    let count = laid_count p.list _ p.canonical in
    let is = rw (← c.put.ensures) at (pushed_is p.list p.end id p.canonical p.ends (omega arith)) in
    let long : length (joined (ps ++ id ∷ [])) ≡ length (joined ps) + length id = rw (joined_snoc, length-append) in
    record {
      canonical = laid_canonical _ _ is;
      ends = rw (laid_ids _ _ is) (omega (arith, p.ends));
      within = omega (arith, p.ends);
      few = omega arith;
    }

pub returns : goal.returns
returns c =
    let p = c.args.self.now in
    let id = c.args.id.now in
    let room = room_is id (phones_of p.list) c.requires.room in
    let count = laid_count p.list _ p.canonical in
    laid_ids _ _ (rw (← c.put.ensures) at (pushed_is p.list p.end id p.canonical p.ends (omega arith)))
