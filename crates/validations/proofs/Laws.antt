-- Laws of the store, and steps of the loops over its cars.
use mathlib.Core.Path.{◌≡◌, refl, sym, ap, ◌∙◌}
use mathlib.Core.Bool.{Bool, true, false, cond}
use mathlib.Core.List.{List, [], ◌∷◌, ◌++◌, map, append_assoc, append-nil}
use Prim.Native.Nat.{ℕ, zero, suc, ◌+◌, ◌-◌, ◌≤◌, ◌<◌, min}
use native.Mathlib.Numerals.{add-one}
use native.Mathlib.Omega.{arith}
use lib.ListN.{length, length-take, take, drop, get_or, set, replicate, drop_of_length-le, length-append, length-drop, length-map, length-set, get_or-map}
use lib.Seq.{drop-cons, take-suc, take_all, get_or-take}
use Rattle.std.specs.Prelude.{not, Some, None, unwrap_or, position}
use borrow.Author.Tests.{ltb-true, ltb-false}
use lib.Dec.{ltb}
use Rattle.std.specs.List.{position_or_len}
use Rattle.arrays.specs.Arrays.{padded, same_bytes}
use Rattle.arrays.proofs.Laws.{padded_push}
use Rattle.phones.specs.Phones.{phones_of}
use Rattle.saved_record.specs.declared.CarPhones.{CarPhones}
use Rattle.saved_record.specs.declared.Store.{Store}
use Rattle.saved_record.specs.SavedRecord.{CarIds}
use Rattle.saved_record.specs.Store.{car_of, laid_car, empty_car, cars_of, store_of}
use Rattle.saved_record.proofs.Laws.{past_cars, used, used_clamped, used_length, used_at}
use Rattle.validations.specs.Store.{phones_for}
use Rattle.validations.specs.Places.{place_of}

pub cars_length : (s : Store) (n : ℕ) → length s.cars ≡ 4 → n ≡ min s.count 4 → length (cars_of s) ≡ n
cars_length s n h e = rw (← used_clamped s n h e) (used_length n s.cars (omega arith))

pub counted : (s : Store) (n : ℕ) → length s.cars ≡ 4 → n ≡ min s.count 4 → n ≡ length (cars_of s)
counted s n h e = sym (cars_length s n h e)

pub cars_few : (s : Store) → length s.cars ≡ 4 → length (cars_of s) ≤ 4
cars_few s h = let l = cars_length s (min s.count 4) h refl in omega arith

-- ---- the car with a digest

place_prefix : (car : List ℕ) (xs : List CarPhones) → place_of car (map car_of xs) ≡ position_or_len (λ (c : CarPhones). same_bytes c.car car) xs
unfolding place_of car_of
place_prefix car [] = refl
place_prefix car (x ∷ xs) = go (same_bytes x.car car) (place_prefix car xs)
  where
    go : (b : Bool) → place_of car (map car_of xs) ≡ position_or_len (λ (c : CarPhones). same_bytes c.car car) xs
        → cond b 0 (suc (place_of car (map car_of xs))) ≡ cond (not b) (1 + position_or_len (λ (c : CarPhones). same_bytes c.car car) xs) 0
    go true h = refl
    go false h = omega arith

place_few : (car : List ℕ) (cs : List CarIds) → place_of car cs ≤ length cs
unfolding place_of
place_few car [] = omega arith
place_few car (c ∷ cs) = go (same_bytes c.car car) (place_few car cs)
  where
    go : (b : Bool) → place_of car cs ≤ length cs → cond b 0 (suc (place_of car cs)) ≤ suc (length cs)
    go true h = omega arith
    go false h = omega arith

-- the first of the cars in use with this digest
pub place_found : (s : Store) (car : List ℕ) (n : ℕ) → length s.cars ≡ 4 → n ≡ min s.count 4
    → unwrap_or (position (λ (c : CarPhones). same_bytes c.car car) (take n s.cars)) n ≡ place_of car (cars_of s)
place_found s car n far m = rw (← used_clamped s n far m) (go (ltb L (length xs)) refl)
  where
    xs : List CarPhones
    xs = take n s.cars

    L : ℕ
    L = position_or_len (λ (c : CarPhones). same_bytes c.car car) xs

    many : length xs ≡ n
    many = rw length-take (omega arith)

    go : (b : Bool) → ltb L (length xs) ≡ b → unwrap_or (cond (ltb L (length xs)) (Some L) None) n ≡ place_of car (map car_of xs)
    go true e = rw e (sym (place_prefix car xs))
    go false e =
        let l = ltb-false L (length xs) e in
        let p = place_prefix car xs in
        let f = place_few car (map car_of xs) in
        let w = length-map xs car_of in
        let k = many in
        rw e (omega arith)

module _ (car : List ℕ) where
  place_phones : (cs : List CarIds) (d : CarIds) → place_of car cs < length cs → (get_or cs (place_of car cs) d).phones ≡ phones_for car cs
  unfolding place_of phones_for
  place_phones [] d h = absurd (omega arith)
  place_phones (c ∷ cs) d h = go (same_bytes c.car car) h (place_phones cs d)
    where
      go : (t : Bool) → cond t 0 (suc (place_of car cs)) < suc (length cs) → (place_of car cs < length cs → (get_or cs (place_of car cs) d).phones ≡ phones_for car cs) → (get_or (c ∷ cs) (cond t 0 (suc (place_of car cs))) d).phones ≡ cond t c.phones (phones_for car cs)
      go true k others = refl
      go false k others = others (omega arith)

  place_none : (cs : List CarIds) → length cs ≤ place_of car cs → phones_for car cs ≡ []
  unfolding place_of phones_for
  place_none [] h = refl
  place_none (c ∷ cs) h = go (same_bytes c.car car) h (place_none cs)
    where
      go : (t : Bool) → suc (length cs) ≤ cond t 0 (suc (place_of car cs)) → (length cs ≤ place_of car cs → phones_for car cs ≡ []) → cond t c.phones (phones_for car cs) ≡ []
      go true k others = absurd (omega arith)
      go false k others = others (omega arith)

-- the list of the car that a search finds
module _ (car : List ℕ) (xs : List CarPhones) where
  first : ℕ
  first = position_or_len (λ (c : CarPhones). same_bytes c.car car) xs

  pub found : (i : ℕ) (d : CarPhones) → position (λ (c : CarPhones). same_bytes c.car car) xs ≡ Some i → (i < length xs) × (phones_of (get_or xs i d).phones ≡ phones_for car (map car_of xs))
  unfolding car_of first
  found i d = go (ltb first (length xs)) refl
    where
      go : (b : Bool) → ltb first (length xs) ≡ b → cond b (Some first) None ≡ Some i → (i < length xs) × (phones_of (get_or xs i d).phones ≡ phones_for car (map car_of xs))
      go false q h = cc
      go true q h =
          let is : first ≡ i = cc in
          let l = ltb-true first (length xs) q in
          let p : place_of car (map car_of xs) ≡ first = place_prefix car xs in
          let w = length-map xs car_of in
          let at : place_of car (map car_of xs) ≡ i = p ∙ is in
          let b : (get_or (map car_of xs) i (car_of d)).phones ≡ phones_for car (map car_of xs) = rw at at (place_phones car (map car_of xs) (car_of d) (omega arith)) in
          (omega arith, ap (λ (c : CarIds). c.phones) (sym (get_or-map car_of xs i d)) ∙ b)

  pub not_found : position (λ (c : CarPhones). same_bytes c.car car) xs ≡ None → phones_for car (map car_of xs) ≡ []
  unfolding first
  not_found = go (ltb first (length xs)) refl
    where
      go : (b : Bool) → ltb first (length xs) ≡ b → cond b (Some first) None ≡ None → phones_for car (map car_of xs) ≡ []
      go true q h = cc
      go false q h =
          let l = ltb-false first (length xs) q in
          let p : place_of car (map car_of xs) ≡ first = place_prefix car xs in
          let w = length-map xs car_of in
          place_none car (map car_of xs) (omega arith)

-- the list at a place that was looked up; n cars are in use
module _ (s : Store) (far : length s.cars ≡ 4) (car : List ℕ) (at n : ℕ) (e : at ≡ place_of car (cars_of s)) (en : n ≡ length (cars_of s)) where
  pub phones_at : (i : ℕ) → at ≡ i → at < n → phones_of (get_or s.cars i past_cars).phones ≡ phones_for car (cars_of s)
  unfolding car_of
  phones_at i is h =
      let l = cars_length s (min s.count 4) far refl in
      let b : (get_or (cars_of s) i (car_of past_cars)).phones ≡ phones_for car (cars_of s) = rw (← is, e) (place_phones car (cars_of s) (car_of past_cars) (omega arith)) in
      ap (λ (c : CarIds). c.phones) (sym (used_at (min s.count 4) s.cars i (omega arith))) ∙ rw (used_clamped s (min s.count 4) far refl) b

  pub no_phones : n ≤ at → phones_for car (cars_of s) ≡ []
  no_phones h = place_none car (cars_of s) (omega arith)

-- ---- a loop over the cars in use

module _ (n : ℕ) (cars : List CarPhones) (fits : n ≤ length cars) (i : ℕ) where
  pub next_car : i < n → drop i (used n cars) ≡ car_of (get_or cars i past_cars) ∷ drop (i + 1) (used n cars)
  next_car h =
      let l = used_length n cars fits in
      rw (add-one, drop-cons (used n cars) i (car_of past_cars) (omega arith), used_at n cars i h)

  pub no_car_lem : n ≤ i → drop i (used n cars) ≡ []
  no_car_lem h =
      let l = used_length n cars fits in
      drop_of_length-le (used n cars) {i = i} (omega arith)

-- ---- a store that is built

-- `done` lie in the first k places, and `todo` are to come
pub record Gathered (whole : List CarIds) (left : List CarPhones) (k : ℕ) (done todo : List CarIds) : Type 0 where
  pub many : length done ≡ k
  pub long : length left ≡ 4
  pub lies : left ≡ padded 4 empty_car (map laid_car done)
  pub parts : whole ≡ done ++ todo

pub gathered_none : (whole : List CarIds) → Gathered whole (replicate 4 empty_car) 0 [] whole
unfolding padded
gathered_none whole = record { many = refl; long = refl; lies = refl; parts = refl }

map_snoc : {A B : Type 0} (f : A → B) (xs : List A) (x : A) → map f (xs ++ (x ∷ [])) ≡ map f xs ++ (f x ∷ [])
map_snoc f [] x = refl
map_snoc f (y ∷ xs) x = rw (map_snoc f xs x)

-- a car right behind those that lie there
pub laid_more : (done : List CarIds) (c : CarIds) (k : ℕ) → length done ≡ k → k < 4
    → set (padded 4 empty_car (map laid_car done)) k (laid_car c) ≡ padded 4 empty_car (map laid_car (done ++ (c ∷ [])))
laid_more done c k m h =
    let n : length (map laid_car done) ≡ k = length-map done laid_car ∙ m in
    rw (map_snoc laid_car done c, ← n) (padded_push 4 empty_car (laid_car c) (map laid_car done) (omega arith))

module _ (whole : List CarIds) (left : List CarPhones) (k : ℕ) (done todo : List CarIds) (g : Gathered whole left k done todo) where
  pub gathered_more : (l : CarPhones) (c : CarIds) (rest : List CarIds) → k < 4 → l ≡ laid_car c → todo ≡ c ∷ rest → Gathered whole (set left k l) (k + 1) (done ++ (c ∷ [])) rest
  gathered_more l c rest h e t =
      let m = g.many in
      record {
        many = rw length-append (omega arith);
        long = rw length-set g.long;
        lies = rw (g.lies, e) (laid_more done c k m h);
        parts = g.parts ∙ rw (t, append_assoc);
      }

  pub gathered_same : (rest : List CarIds) → todo ≡ rest → Gathered whole left k done rest
  gathered_same rest t = record { many = g.many; long = g.long; lies = g.lies; parts = g.parts ∙ rw t }

  pub gathered_all : todo ≡ [] → ◌≡◌ {A = Store} (record { cars = left; count = k }) (store_of whole)
  unfolding store_of
  gathered_all t =
      let w : whole ≡ done = g.parts ∙ rw (t, append-nil done) in
      rw (w, g.many, ← g.lies)

-- ---- a store that is laid anew

-- the canonical forms of some cars, and no cars behind them
unfoldable pub laid_of : List CarPhones → List CarPhones
laid_of cars = padded 4 empty_car (map (λ (c : CarPhones). laid_car (car_of c)) cars)

pub laid_none : (s : Store) (cars : List CarPhones) → s ≡ store_of [] → s.cars ≡ laid_of (take 0 cars)
unfolding store_of laid_of padded
laid_none s cars e = rw e

pub laid_next : (cars left : List CarPhones) (k : ℕ) (d : CarPhones) (laid : CarPhones) → length cars ≤ 4 → k < length cars → left ≡ laid_of (take k cars) → laid ≡ laid_car (car_of (get_or cars k d))
    → set left k laid ≡ laid_of (take (k + 1) cars)
unfolding laid_of
laid_next cars left k d laid few h e el =
    let f : CarPhones → CarPhones = λ (c : CarPhones). laid_car (car_of c) in
    let n : length (map f (take k cars)) ≡ k = length-map (take k cars) f ∙ rw length-take (omega arith) in
    let z : (k' : ℕ) → k' ≡ length (map f (take k cars)) → set (padded 4 empty_car (map f (take k cars))) k' (f (get_or cars k d)) ≡ padded 4 empty_car (map f (take k cars) ++ (f (get_or cars k d) ∷ [])) =
    λ k' q. rw q (padded_push 4 empty_car (f (get_or cars k d)) (map f (take k cars)) (omega arith)) in
    rw (add-one, take-suc cars k d h, map_snoc f (take k cars) (get_or cars k d), e, el) (z k (sym n))

maps : (cars : List CarPhones) → map (λ (c : CarPhones). laid_car (car_of c)) cars ≡ map laid_car (map car_of cars)
maps [] = refl
maps (c ∷ cars) = rw (maps cars)

drop_map : (f : CarPhones → CarIds) (xs : List CarPhones) (i : ℕ) → drop i (map f xs) ≡ map f (drop i xs)
drop_map f xs zero = refl
drop_map f [] (suc i) = refl
drop_map f (x ∷ xs) (suc i) = drop_map f xs i

drop_of_take : (n i : ℕ) (xs : List CarPhones) → n ≤ length xs → drop i (take n xs) ≡ take (n - min i n) (drop (min i n) xs)
drop_of_take zero zero xs h = refl
drop_of_take zero (suc i) xs h = let e : 0 - min (suc i) 0 ≡ 0 = omega arith in rw e
drop_of_take (suc n) i [] h = absurd (omega arith)
drop_of_take (suc n) zero (x ∷ xs) h = let e : min 0 (suc n) ≡ 0 = omega arith in let z : suc n - 0 ≡ suc n = omega arith in rw (e, z)
drop_of_take (suc n) (suc i) (x ∷ xs) h =
    let e : min (suc i) (suc n) ≡ suc (min i n) = omega arith in
    let z : suc n - suc (min i n) ≡ n - min i n = omega arith in
    rw (e, z) (drop_of_take n i xs (omega arith))

pub part_few : (n i : ℕ) (cars : List CarPhones) → length cars ≡ 4 → length (take n (drop i cars)) ≤ 4
part_few n i cars far = let l = length-drop i cars in rw length-take (omega arith)

pub laid_all : (s : Store) (n from first : ℕ) (left : List CarPhones) (k : ℕ) → length s.cars ≡ 4 → n ≡ length (cars_of s) → first ≡ min from n
    → length (take (n - first) (drop first s.cars)) ≤ k → left ≡ laid_of (take k (take (n - first) (drop first s.cars)))
    → ◌≡◌ {A = Store} (record { cars = left; count = length (take (n - first) (drop first s.cars)) }) (store_of (drop from (cars_of s)))
unfolding laid_of store_of
laid_all s n from first left k far en ef end el =
    let m : n ≡ min s.count 4 = en ∙ cars_length s (min s.count 4) far refl in
    let cars : List CarPhones = take (n - first) (drop first s.cars) in
    let here : drop from (cars_of s) ≡ map car_of cars = rw (← used_clamped s n far m, drop_map car_of (take n s.cars) from, drop_of_take n from s.cars (omega arith), ← ef) in
    let l : left ≡ padded 4 empty_car (map laid_car (map car_of cars)) = el ∙ rw (take_all k cars end, maps cars) in
    rw (here, length-map cars car_of, l)

-- ---- a search among the digests of the cars in use

digests_prefix : (car : List ℕ) (xs : List CarPhones) → position_or_len (λ (d : List ℕ). same_bytes d car) (map (λ (c : CarPhones). c.car) xs) ≡ position_or_len (λ (c : CarPhones). same_bytes c.car car) xs
digests_prefix car [] = refl
digests_prefix car (x ∷ xs) = rw (digests_prefix car xs)

pub by_digests : (car : List ℕ) (xs : List CarPhones) → position (λ (d : List ℕ). same_bytes d car) (map (λ (c : CarPhones). c.car) xs) ≡ position (λ (c : CarPhones). same_bytes c.car car) xs
by_digests car xs = rw (digests_prefix car xs, length-map)

-- the list of the car that a search among the cars in use finds
module _ (s : Store) (far : length s.cars ≡ 4) (car : List ℕ) where
  pub found_in : (i : ℕ) → position (λ (c : CarPhones). same_bytes c.car car) (take (min s.count 4) s.cars) ≡ Some i
      → (i < 4) × (phones_of (get_or s.cars i past_cars).phones ≡ phones_for car (cars_of s))
  found_in i e =
      let f = found car (take (min s.count 4) s.cars) i past_cars e in
      let many : length (take (min s.count 4) s.cars) ≡ min s.count 4 = rw length-take (omega arith) in
      (omega arith, ap (λ (c : CarPhones). phones_of c.phones) (sym (get_or-take (min s.count 4) s.cars i past_cars (omega arith))) ∙ f.1 ∙ ap (phones_for car) (used_clamped s (min s.count 4) far refl))

  pub not_found_in : position (λ (c : CarPhones). same_bytes c.car car) (take (min s.count 4) s.cars) ≡ None → phones_for car (cars_of s) ≡ []
  not_found_in e = ap (phones_for car) (sym (used_clamped s (min s.count 4) far refl)) ∙ not_found car (take (min s.count 4) s.cars) e
