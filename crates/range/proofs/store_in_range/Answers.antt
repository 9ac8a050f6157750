use mathlib.Core.Path.{◌≡◌}
use borrow.Author.Rules.{rules}
use borrow.Author.Tests.{lt-ltb, le-ltb}
use lib.ListN.{length}
use Rattle.saved_record.proofs.Laws.{twice_at_lem}
use Rattle.state.specs.View.{store_in_range}
use Rattle.range.proofs.Laws.{cars_by}
use Rattle.range.proofs.store_in_range.Goals as goal

pub returns-then-n-gt4 : goal.returns-then-n-gt4
unfolding store_in_range
returns-then-n-gt4 c = rw (lt-ltb _ _ c.if-n-gt4.true)

pub bounds-cars-0 : goal.bounds-cars-0
unfolding store_in_range
bounds-cars-0 c = search rules

pub bounds-cars-1 : goal.bounds-cars-1
unfolding store_in_range
bounds-cars-1 c = search rules

pub bounds-cars-2 : goal.bounds-cars-2
unfolding store_in_range
bounds-cars-2 c = search rules

pub bounds-cars-3 : goal.bounds-cars-3
unfolding store_in_range
bounds-cars-3 c = search rules

pub returns-then-place_fits-4 : goal.returns-then-place_fits-4
unfolding store_in_range
returns-then-place_fits-4 c =
    let s = c.args.s.now in
    let far : length s.cars ≡ 4 = c.requires.four in
    rw (le-ltb _ _ c.if-n-gt4.false, cars_by s far, ← c.place_fits.ensures, c.if-place_fits.true, ← c.place_fits-then-place_fits.ensures, c.if-place_fits-2.true, ← c.place_fits-then-place_fits-2.ensures, c.if-place_fits-3.true, ← c.place_fits-then-place_fits-3.ensures, c.if-place_fits-4.true, twice_at_lem s far, ← c.digests_differ.ensures)

pub returns-else-place_fits-4 : goal.returns-else-place_fits-4
unfolding store_in_range
returns-else-place_fits-4 c =
    let s = c.args.s.now in
    let far : length s.cars ≡ 4 = c.requires.four in
    rw (le-ltb _ _ c.if-n-gt4.false, cars_by s far, ← c.place_fits.ensures, c.if-place_fits.true, ← c.place_fits-then-place_fits.ensures, c.if-place_fits-2.true, ← c.place_fits-then-place_fits-2.ensures, c.if-place_fits-3.true, ← c.place_fits-then-place_fits-3.ensures, c.if-place_fits-4.false)

pub returns-else-place_fits-3 : goal.returns-else-place_fits-3
unfolding store_in_range
returns-else-place_fits-3 c =
    let s = c.args.s.now in
    let far : length s.cars ≡ 4 = c.requires.four in
    rw (le-ltb _ _ c.if-n-gt4.false, cars_by s far, ← c.place_fits.ensures, c.if-place_fits.true, ← c.place_fits-then-place_fits.ensures, c.if-place_fits-2.true, ← c.place_fits-then-place_fits-2.ensures, c.if-place_fits-3.false)

pub returns-else-place_fits-2 : goal.returns-else-place_fits-2
unfolding store_in_range
returns-else-place_fits-2 c =
    let s = c.args.s.now in
    let far : length s.cars ≡ 4 = c.requires.four in
    rw (le-ltb _ _ c.if-n-gt4.false, cars_by s far, ← c.place_fits.ensures, c.if-place_fits.true, ← c.place_fits-then-place_fits.ensures, c.if-place_fits-2.false)

pub returns-else-place_fits : goal.returns-else-place_fits
unfolding store_in_range
returns-else-place_fits c =
    let s = c.args.s.now in
    let far : length s.cars ≡ 4 = c.requires.four in
    rw (le-ltb _ _ c.if-n-gt4.false, cars_by s far, ← c.place_fits.ensures, c.if-place_fits.false)
