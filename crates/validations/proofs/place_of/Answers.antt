use Rattle.std.proofs.Common.{rules, refl, min}
use Rattle.arrays.proofs.Laws.{long_map}
use Rattle.validations.proofs.Laws.{place_found}
use Rattle.validations.proofs.place_of.Goals as goal

pub returns : goal.returns
returns c = rw (c.unwrap_or.ensures, c.position_in.ensures, c.clamp_cars.ensures) (place_found c.args.s c.args.car (min c.args.s.count 4) (search (rules, long_map)) refl)
