-- Is there a car in use, and what is left of each.
use Rattle.std.proofs.Common.{◌≡◌, refl, ap, ◌∙◌, ℕ, ◌+◌, ◌≤◌, ◌<◌, arith, Bool, true, false, cond, ◌||◌, List, [], ◌∷◌, ◌++◌, map, length, drop, get_or, set}
use native.Mathlib.Numerals.{add-one}
use borrow.Author.Tests.{eq-eqb, ne_eqb}
use lib.ListN.{drop_of_length-le}
use lib.Seq.{drop-cons}
use Rattle.std.specs.List.{list_any}
use Rattle.arrays.specs.Arrays.{padded}
use Rattle.phones.specs.declared.PhoneList.{PhoneList}
use Rattle.phones.specs.Ids.{some_of}
use Rattle.phones.specs.Phones.{phones_of, list_of}
use Rattle.phones.proofs.Laws.{phones_of_list}
use Rattle.saved_record.specs.declared.CarPhones.{CarPhones}
use Rattle.saved_record.specs.declared.Store.{Store}
use Rattle.saved_record.specs.SavedRecord.{CarIds}
use Rattle.saved_record.specs.Store.{car_of, laid_car, store_of}
use Rattle.validations.specs.Store.{with_phones, with_some, under_every}
use Rattle.validations.proofs.Laws.{Gathered, gathered_none, gathered_more, gathered_same, gathered_all}

-- ---- whether there is one

pub some_car : (f : CarIds → Bool) (xs : List CarPhones) → list_any (λ (c : CarPhones). f (car_of c)) xs ≡ some_of f (map car_of xs)
unfolding some_of
some_car f [] = refl
some_car f (x ∷ xs) = rw (some_car f xs) (go (f (car_of x)) (some_of f (map car_of xs)))
  where
    go : (t u : Bool) → t || u ≡ cond t true u
    go true u = refl
    go false u = refl

pub counted : (l : PhoneList) (ps : List (List ℕ)) (n : ℕ) → l ≡ list_of ps → n ≡ length (phones_of l) → n ≡ length ps
counted l ps n e k = k ∙ ap (λ (x : PhoneList). length (phones_of x)) e ∙ ap length (phones_of_list ps)

-- ---- what is left of every list

-- a change of lists leaves these phones of a list
abbrev pub Leaves : (PhoneList → PhoneList → Type 0) → (List (List ℕ) → List (List ℕ)) → Type 0
Leaves post f = (l l' : PhoneList) → post l l' → l' ≡ list_of (f (phones_of l))

-- what is left of the first i cars lies in the first k places
abbrev pub Leaving : (PhoneList → PhoneList → Type 0) → List CarPhones → ℕ → List CarPhones → ℕ → Type 0
Leaving post cars i left k =
    (f : List (List ℕ) → List (List ℕ)) → Leaves post f
    → (done : List CarIds) × Gathered (under_every f (map car_of cars)) left k done (under_every f (map car_of (drop i cars)))

pub empty_count : (s : Store) → s ≡ store_of [] → s.count ≡ 0
unfolding store_of
empty_count s e = rw e

module _ (post : PhoneList → PhoneList → Type 0) (cars : List CarPhones) where
  pub leaving_start : (s : Store) → s ≡ store_of [] → Leaving post cars 0 s.cars s.count
  unfolding store_of padded
  leaving_start s e f h = rw e ([], gathered_none (under_every f (map car_of cars)))

  pub leaving_end : (s : Store) (i : ℕ) → length cars ≤ i → Leaving post cars i s.cars s.count
      → (f : List (List ℕ) → List (List ℕ)) → Leaves post f → s ≡ store_of (under_every f (map car_of cars))
  unfolding under_every with_some
  leaving_end s i past inv f h =
      let at = inv f h in
      gathered_all _ s.cars s.count at.0 _ at.1 (rw (drop_of_length-le cars {i = i} past))

  module _ (i : ℕ) (inside : i < length cars) (d : CarPhones) (left : List CarPhones) (k : ℕ) (inv : Leaving post cars i left k) (l : PhoneList) (m : ℕ) (p : post (get_or cars i d).phones l) (em : m ≡ length (phones_of l)) where
    pub leaving_some : k < 4 → 0 < m → Leaving post cars (i + 1) (set left k (record { car = (get_or cars i d).car; phones = l })) (k + 1)
    unfolding under_every with_some car_of laid_car
    leaving_some few z f h =
        let at = inv f h in
        let ps = f (phones_of (get_or cars i d).phones) in
        let e = h _ _ p in
        let len = counted l ps m e em in
        let todo = drop-cons cars i d inside in (
          at.0 ++ (with_phones (car_of (get_or cars i d)) ps ∷ []),
          gathered_more _ left k at.0 _ at.1 _ _ _ few (rw e) (rw (add-one, todo, ne_eqb (length ps) 0 (omega arith))),
        )

    pub leaving_none : m ≤ 0 → Leaving post cars (i + 1) left k
    unfolding under_every with_some car_of
    leaving_none z f h =
        let at = inv f h in
        let ps = f (phones_of (get_or cars i d).phones) in
        let e = h _ _ p in
        let len = counted l ps m e em in
        let todo = drop-cons cars i d inside in
        (at.0, gathered_same _ left k at.0 _ at.1 _ (rw (add-one, todo, eq-eqb (length ps) 0 (omega arith))))
