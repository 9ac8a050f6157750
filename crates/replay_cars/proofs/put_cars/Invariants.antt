-- The loop's invariant: what is left of the cars, written from here on, makes what is to be written.
use Rattle.std.proofs.Common.{◌≡◌, drop}
use Rattle.saved_record.proofs.Laws.{used}
use Rattle.replay_page.specs.Page.{page}
use Rattle.replay_cars.specs.Cars.{each_car}
use Rattle.replay_cars.proofs.put_cars.Given as goal

abbrev pub invariant-loop-i : goal.invariant-loop-i
invariant-loop-i l = each_car (used l.n l.s.cars) (page l.initial.out l.at) ≡ each_car (drop l.i (used l.n l.s.cars)) (page l.out l.k)
