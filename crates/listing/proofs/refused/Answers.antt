-- `listing::refused` meets its contract. Assumes nothing.
use Rattle.car_lines.specs.Lines.{line}
use Rattle.listing.specs.Listing.{refused_lines}
use Rattle.listing.proofs.Cars.{wrote_listed}
use Rattle.listing.proofs.refused.Goals as goal

pub returns : goal.returns
unfolding refused_lines line
returns c = wrote_listed refused_lines c.put_text-len.new.dst c.put_text-len.result c.put_text-len.ensures
