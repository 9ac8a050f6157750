-- Laws of the cars of a store, place by place.
use Rattle.std.proofs.Common.{◌≡◌, refl, sym, ◌∙◌, List, [], ◌∷◌, ℕ, ◌+◌, ◌≤◌, ◌<◌, add-one, arith, length, drop, get_or, drop_of_length-le}
use lib.Seq.{drop-cons}
use Rattle.saved_record.specs.declared.CarPhones.{CarPhones}
use Rattle.saved_record.specs.SavedRecord.{CarIds}
use Rattle.saved_record.specs.Store.{car_of}
use Rattle.saved_record.proofs.Laws.{past_cars, used, used_length, used_at}
use Rattle.replay_page.specs.Page.{Page}
use Rattle.replay_cars.specs.Cars.{no_car, car, each_car, cars}

pub no_cars : (cs : List CarIds) (p : Page) → length cs ≡ 0 → no_car p ≡ cars cs p
unfolding cars
no_cars [] p h = refl
no_cars (c ∷ cs) p h = absurd (omega arith)

pub some_cars : (cs : List CarIds) (p : Page) → (length cs ≡ 0 → ⊥) → each_car cs p ≡ cars cs p
unfolding cars
some_cars [] p h = absurd (h refl)
some_cars (c ∷ cs) p h = refl

module _ (n : ℕ) (list : List CarPhones) (fits : n ≤ length list) (i : ℕ) (p₀ p : Page) (inv : each_car (used n list) p₀ ≡ each_car (drop i (used n list)) p) where
  pub cars_again : (q : Page) → i < n → q ≡ car (car_of (get_or list i past_cars)) p → each_car (used n list) p₀ ≡ each_car (drop (i + 1) (used n list)) q
  unfolding each_car
  cars_again q h e =
      let l = used_length n list fits in
      inv ∙ rw (e, add-one, drop-cons (used n list) i (car_of past_cars) (omega arith), used_at n list i h)

  pub cars_end : n ≤ i → p ≡ each_car (used n list) p₀
  unfolding each_car
  cars_end h =
      let l = used_length n list fits in
      sym (inv ∙ rw (drop_of_length-le (used n list) {i = i} (omega arith)))
