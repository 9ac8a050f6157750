use Rattle.std.proofs.Common.{arith, rules}
use Rattle.arrays.proofs.Laws.{long_map}
use Rattle.saved_record.specs.Store.{cars_of}
use Rattle.validations.proofs.Laws.{cars_few}
use Rattle.add_validation.proofs.Laws.{phones_put}
use Rattle.add_validation.proofs.put_phones.Goals as goal

pub offset_bounds-all-at : goal.offset_bounds-all-at
offset_bounds-all-at c = let few = cars_few c.args.s (search (rules, long_map)) in let h = c.requires in omega arith

pub bounds-all-at : goal.bounds-all-at
bounds-all-at c = let few = cars_few c.args.s (search (rules, long_map)) in let h = c.requires in omega arith

pub returns : goal.returns
returns c = λ ps e. phones_put ps c.canonical-all.result c.args.at c.args.phones (cars_of c.args.s) c.requires c.canonical-all.ensures e
