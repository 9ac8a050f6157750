-- A store is in range exactly if its cars fit one: said of an array of cars whatever the layout of their lists, and then of `Store`.
use mathlib.Core.Path.{◌≡◌, refl, ap, ◌∙◌}
use mathlib.Core.Bool.{Bool, true, false, cond, not, ◌&&◌, and-eq-true_iff, false≢true}
use mathlib.Core.List.{List, [], ◌∷◌, map}
use Prim.Native.Nat.{ℕ, ◌≤◌}
use native.Mathlib.Omega.{arith}
use borrow.Author.Tests.{le-ltb, ltb-false, not-true}
use lib.Dec.{eqb, ltb}
use lib.ListN.{length, take, length-map, length-take}
use Rattle.arrays.specs.Arrays.{padded}
use Rattle.arrays.proofs.Laws.{both, padded_take}
use Rattle.phones.specs.Ids.{all_of, ids_fit}
use Rattle.phones.specs.Phones.{phones_of}
use Rattle.phones.proofs.Laws.{phones_of_list}
use Rattle.phones.proofs.Packed.{fits_of_list, range_fits}
use Rattle.saved_record.specs.declared.CarPhones.{CarPhones}
use Rattle.saved_record.specs.declared.Store.{Store}
use Rattle.saved_record.specs.SavedRecord.{CarIds, twice}
use Rattle.saved_record.specs.Store.{car_of, laid_car, empty_car, cars_of, store_of}
use Rattle.saved_record.proofs.Laws.{car_of_laid}
use Rattle.state.specs.View.{car_in_range, store_in_range}

-- ---- cars that fit

-- 1 to 32 ids, of at most 32 bytes each
abbrev pub some_fit : List (List ℕ) → Bool
some_fit ps = not (eqb (length ps) 0) && ids_fit ps

abbrev pub car_fits : CarIds → Bool
car_fits c = some_fit c.phones

abbrev pub cars_fit : List CarIds → Bool
cars_fit cs = cond (ltb 4 (length cs)) false (all_of car_fits cs && not (twice cs))

pub ids_fit_lem : (ps : List (List ℕ)) → some_fit ps ≡ true → ids_fit ps ≡ true
ids_fit_lem ps h = ((and-eq-true_iff (not (eqb (length ps) 0)) (ids_fit ps)).0 h).1

pub record CarsFit (cs : List CarIds) : Type 0 where
  pub few : length cs ≤ 4
  pub each : all_of car_fits cs ≡ true
  pub apart : twice cs ≡ false

parts : (n : ℕ) (a t : Bool) → cond (ltb 4 n) false (a && not t) ≡ true → (n ≤ 4) × (a ≡ true) × (t ≡ false)
parts n a t h = go (ltb 4 n) refl h
  where
    go : (b : Bool) → ltb 4 n ≡ b → cond b false (a && not t) ≡ true → (n ≤ 4) × (a ≡ true) × (t ≡ false)
    go true e k = absurd (false≢true k)
    go false e k = let p = (and-eq-true_iff a (not t)).0 k in (ltb-false 4 n e, p.0, not-true t p.1)

pub cars_fit_lem : (cs : List CarIds) → CarsFit cs → cars_fit cs ≡ true
cars_fit_lem cs f = rw (le-ltb 4 (length cs) f.few, f.each, f.apart)

-- ---- an array of cars

-- a test passes on what is made of each as another does on each, or wherever it does
module _ {A B : Type 0} (f : A → Bool) (g : B → Bool) (made : A → B) where
  same_all : ((x : A) → g (made x) ≡ f x) → (xs : List A) → all_of g (map made xs) ≡ all_of f xs
  unfolding all_of
  same_all k [] = refl
  same_all k (x ∷ xs) = rw (k x, same_all k xs)

  pass_all : ((x : A) → f x ≡ true → g (made x) ≡ true) → (xs : List A) → all_of f xs ≡ true → all_of g (map made xs) ≡ true
  unfolding all_of
  pass_all k [] h = refl
  pass_all k (x ∷ xs) h = let p = both (f x) (all_of f xs) h in rw (k x p.0) (pass_all k xs p.1)

-- how a car lies: `ids` reads it, `lay` lays one down and `none` stands past the last; `fit` is its range
pub record Lays (C : Type 0) : Type 0 where
  pub ids : C → CarIds
  pub lay : CarIds → C
  pub none : C
  pub fit : C → Bool
  pub reads : (c : CarIds) → ids (lay c) ≡ c
  pub laid : (c : CarIds) → fit (lay c) ≡ car_fits c
  pub fits : (c : C) → fit c ≡ true → car_fits (ids c) ≡ true

module _ {C : Type 0} (l : Lays C) where
  abbrev laid_in : List CarIds → List C
  laid_in cs = padded 4 l.none (map l.lay cs)

  -- of an array, as many as the count says
  abbrev cars : List C → ℕ → List CarIds
  cars xs n = map l.ids (take n xs)

  abbrev range : List C → ℕ → Bool
  range xs n = cond (ltb 4 n) false (all_of l.fit (take n xs) && not (twice (cars xs n)))

  front : (cs : List CarIds) → take (length cs) (laid_in cs) ≡ map l.lay cs
  front cs = let m : length (map l.lay cs) ≡ length cs = length-map cs l.lay in rw (← m, padded_take 4 l.none (map l.lay cs))

  each_back : (cs : List CarIds) → map l.ids (map l.lay cs) ≡ cs
  each_back [] = refl
  each_back (c ∷ cs) = rw (l.reads c, each_back cs)

  pub laid_cars : (cs : List CarIds) → cars (laid_in cs) (length cs) ≡ cs
  laid_cars cs = ap (map l.ids) (front cs) ∙ each_back cs

  pub laid_range : (cs : List CarIds) → range (laid_in cs) (length cs) ≡ cars_fit cs
  laid_range cs =
      let a : all_of l.fit (take (length cs) (laid_in cs)) ≡ all_of car_fits cs = ap (all_of l.fit) (front cs) ∙ same_all car_fits l.fit l.lay l.laid cs in
      λ i. cond (ltb 4 (length cs)) false (a i && not (twice (laid_cars cs i)))

  pub array_fits : (xs : List C) (n : ℕ) → range xs n ≡ true → CarsFit (cars xs n)
  array_fits xs n h =
      let p = parts n (all_of l.fit (take n xs)) (twice (cars xs n)) h in
      let few : length (cars xs n) ≤ 4 = rw (length-map, length-take) (omega (arith, p.0)) in
      record { few = few; each = pass_all l.fit car_fits l.ids l.fits (take n xs) p.1; apart = p.2 }

-- ---- a store

car_range : (c : CarIds) → car_in_range (laid_car c) ≡ car_fits c
unfolding car_in_range laid_car
car_range c = rw (phones_of_list c.phones, fits_of_list c.phones)

car_fits_lem : (c : CarPhones) → car_in_range c ≡ true → car_fits (car_of c) ≡ true
unfolding car_in_range car_of
car_fits_lem c h = let p = (and-eq-true_iff (not (eqb (length (phones_of c.phones)) 0)) _).0 h in rw (p.0, range_fits c.phones p.1)

abbrev packed : Lays CarPhones
packed = record { ids = car_of; lay = laid_car; none = empty_car; fit = car_in_range; reads = car_of_laid; laid = car_range; fits = car_fits_lem }

-- laid anew, it is in range exactly if its cars fit
pub store_range : (cs : List CarIds) → store_in_range (store_of cs) ≡ cars_fit cs
unfolding store_in_range cars_of store_of
store_range cs = laid_range packed cs

-- the cars of one in range fit, however it lies
pub store_fits_lem : (s : Store) → store_in_range s ≡ true → CarsFit (cars_of s)
unfolding store_in_range cars_of
store_fits_lem s h = array_fits packed s.cars s.count h
