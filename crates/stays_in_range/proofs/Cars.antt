-- What the calls make of cars that fit a store (range/proofs/Stores.antt) fits one too.
use Prim.Native.Nat.{ℕ, suc, ◌≤◌, ◌<◌}
use mathlib.Core.Path.{◌≡◌, refl, sym, ap, ◌∙◌}
use mathlib.Core.Bool.{Bool, true, false, cond, not, true≢false}
use mathlib.Core.List.{List, [], ◌∷◌, ◌++◌}
use native.Mathlib.Omega.{arith}
use borrow.Author.Tests.{ltb-false, le-ltb, ne_eqb, not-false}
use lib.Dec.{eqb, ltb}
use lib.ListN.{length, length-append}
use Rattle.arrays.specs.Arrays.{same_bytes}
use Rattle.arrays.proofs.Laws.{both, same_bytes_is}
use Rattle.phones.specs.declared.PhoneList.{PhoneList}
use Rattle.phones.specs.Ids.{some_of, all_of, ids_fit, room_for, pushed}
use Rattle.phones.specs.Phones.{phones_of, list_of, list_in_range}
use Rattle.phones.proofs.Laws.{phones_of_list}
use Rattle.phones.proofs.Search.{some_snoc}
use Rattle.phones.proofs.Packed.{fits_of_list}
use Rattle.phones.proofs.Range.{range_append}
use Rattle.phone_fields.specs.PhoneFields.{any_long, over_limits}
use Rattle.saved_record.specs.SavedRecord.{CarIds, has_car, twice, over, ok, decoded}
use Rattle.saved_record.specs.Store.{store_of}
use Rattle.saved_record.proofs.Parts.{lacking, unreadable}
use Rattle.saved_record.proofs.RoundTrip.{Versions, one, two, accepted_well_formed}
use Rattle.state.specs.View.{store_in_range}
use Rattle.range.proofs.Stores.{some_fit, ids_fit_lem, car_fits, CarsFit, cars_fit_lem, store_range}
use Rattle.validations.specs.Store.{with_some, under_every, phones_for, car_has, displaced}
use Rattle.stays_in_range.proofs.Parts.{cases}

-- ---- a store

pub store_in : (cs : List CarIds) → CarsFit cs → store_in_range (store_of cs) ≡ true
store_in cs f = store_range cs ∙ cars_fit_lem cs f

pub empty_store : store_in_range (store_of []) ≡ true
unfolding all_of twice
empty_store = store_in [] (record { few = omega arith; each = refl; apart = refl })

-- neither of two tests is true
neither : (a b : Bool) → cond a true b ≡ false → (a ≡ false) × (b ≡ false)
neither true b e = absurd (true≢false e)
neither false b e = (refl, e)

abbrev Each : List CarIds → Type 0
Each cs = all_of car_fits cs ≡ true

-- ---- some ids leave, and cars without phones with them

module _ (f : List (List ℕ) → List (List ℕ)) (fit : (l : PhoneList) → list_in_range l ≡ true → list_in_range (list_of (f (phones_of l))) ≡ true) where
  every_few : (cs : List CarIds) → length (under_every f cs) ≤ length cs
  unfolding under_every with_some
  every_few [] = omega arith
  every_few (c ∷ cs) =
      let n = every_few cs in
      cases (λ (x : List CarIds). length x ≤ suc (length cs)) (eqb (length (f c.phones)) 0) _ _ (λ e. omega arith) (λ e. omega arith)

  left_fit : (ps : List (List ℕ)) → ids_fit ps ≡ true → ids_fit (f ps) ≡ true
  left_fit ps h = sym (fits_of_list (f ps)) ∙ rw (phones_of_list ps) at (fit (list_of ps) (fits_of_list ps ∙ h))

  every_each : (cs : List CarIds) → Each cs → Each (under_every f cs)
  unfolding under_every with_some all_of
  every_each [] h = refl
  every_each (c ∷ cs) h =
      let p = both (car_fits c) _ h in
      let r = every_each cs p.1 in
      cases Each (eqb (length (f c.phones)) 0) _ _ (λ e. r) (λ e. rw (e, left_fit c.phones (ids_fit_lem c.phones p.0)) r)

  every_has : (car : List ℕ) (cs : List CarIds) → has_car car cs ≡ false → has_car car (under_every f cs) ≡ false
  unfolding under_every with_some has_car some_of
  every_has car [] h = refl
  every_has car (c ∷ cs) h =
      let p = neither (same_bytes c.car car) _ h in
      let r = every_has car cs p.1 in
      cases (λ (x : List CarIds). has_car car x ≡ false) (eqb (length (f c.phones)) 0) _ _ (λ e. r) (λ e. rw p.0 r)

  every_apart : (cs : List CarIds) → twice cs ≡ false → twice (under_every f cs) ≡ false
  unfolding under_every with_some twice
  every_apart [] h = refl
  every_apart (c ∷ cs) h =
      let p = neither (has_car c.car cs) _ h in
      let r = every_apart cs p.1 in
      cases (λ (x : List CarIds). twice x ≡ false) (eqb (length (f c.phones)) 0) _ _ (λ e. r) (λ e. rw (every_has c.car cs p.0) r)

  pub every_fits : (cs : List CarIds) → CarsFit cs → CarsFit (under_every f cs)
  every_fits cs h =
      let n = every_few cs in
      let m = h.few in
      record { few = omega arith; each = every_each cs h.each; apart = every_apart cs h.apart }

-- ---- a car has other phones

module _ (car : List ℕ) (ps : List (List ℕ)) where
  has_few : (cs : List CarIds) → length (car_has car ps cs) ≡ length cs
  unfolding car_has
  has_few [] = refl
  has_few (c ∷ cs) = cases (λ (x : List CarIds). length x ≡ suc (length cs)) (same_bytes c.car car) _ _ (λ e. refl) (λ e. ap suc (has_few cs))

  has_each : some_fit ps ≡ true → (cs : List CarIds) → Each cs → Each (car_has car ps cs)
  unfolding car_has all_of
  has_each s [] h = refl
  has_each s (c ∷ cs) h = let p = both (car_fits c) _ h in cases Each (same_bytes c.car car) _ _ (λ e. rw s p.1) (λ e. rw p.0 (has_each s cs p.1))

  has_has : (x : List ℕ) (cs : List CarIds) → has_car x (car_has car ps cs) ≡ has_car x cs
  unfolding car_has has_car some_of
  has_has x [] = refl
  has_has x (c ∷ cs) = cases (λ (y : List CarIds). has_car x y ≡ has_car x (c ∷ cs)) (same_bytes c.car car) _ _ (λ e. refl) (λ e. rw (has_has x cs))

  has_apart : (cs : List CarIds) → twice (car_has car ps cs) ≡ twice cs
  unfolding car_has twice
  has_apart [] = refl
  has_apart (c ∷ cs) =
      cases (λ (y : List CarIds). twice y ≡ twice (c ∷ cs)) (same_bytes c.car car) _ _ (λ e. refl) (λ e. rw (has_has c.car cs, has_apart cs))

  pub has_fits : some_fit ps ≡ true → (cs : List CarIds) → CarsFit cs → CarsFit (car_has car ps cs)
  has_fits s cs f =
      let n = has_few cs in
      let m = f.few in
      record { few = omega arith; each = has_each s cs f.each; apart = has_apart cs ∙ f.apart }

-- ---- a car comes last

each_snoc : (cs : List CarIds) (c : CarIds) → Each cs → car_fits c ≡ true → Each (cs ++ (c ∷ []))
unfolding all_of
each_snoc [] c h s = rw s
each_snoc (x ∷ xs) c h s = let p = both (car_fits x) _ h in rw p.0 (each_snoc xs c p.1 s)

differ : (a b : List ℕ) → same_bytes a b ≡ false → same_bytes b a ≡ false
differ a b h = go (same_bytes b a) refl
  where
    go : (t : Bool) → same_bytes b a ≡ t → t ≡ false
    go true e = absurd (true≢false (sym ((same_bytes_is a b).1 (sym ((same_bytes_is b a).0 e))) ∙ h))
    go false e = refl

apart_snoc : (cs : List CarIds) (c : CarIds) → twice cs ≡ false → has_car c.car cs ≡ false → twice (cs ++ (c ∷ [])) ≡ false
unfolding twice has_car some_of
apart_snoc [] c h n = refl
apart_snoc (x ∷ xs) c h n =
    let p = neither (has_car x.car xs) _ h in
    let q = neither (same_bytes x.car c.car) _ n in
    rw (some_snoc (λ (y : CarIds). same_bytes y.car x.car) xs c, p.0, differ x.car c.car q.0) (apart_snoc xs c p.1 q.1)

-- the first goes where there are four
module _ (car : List ℕ) where
  record Room (cs : List CarIds) : Type 0 where
    few : length cs ≤ 3
    each : Each cs
    apart : twice cs ≡ false
    new : has_car car cs ≡ false

  room : (cs : List CarIds) → CarsFit cs → has_car car cs ≡ false → Room (displaced cs)
  unfolding displaced has_car twice some_of all_of
  room [] f n = record { few = omega arith; each = refl; apart = refl; new = refl }
  room (c ∷ cs) f n =
      let m = f.few in
      cases Room (ltb 3 (suc (length cs))) _ _
      (λ e. record { few = omega arith; each = (both (car_fits c) _ f.each).1; apart = (neither (has_car c.car cs) _ f.apart).1; new = (neither (same_bytes c.car car) _ n).1 })
      (λ e. record { few = ltb-false 3 (suc (length cs)) e; each = f.each; apart = f.apart; new = n })

  pub last_fits : (ps : List (List ℕ)) → some_fit ps ≡ true → (cs : List CarIds) → CarsFit cs → has_car car cs ≡ false → CarsFit (displaced cs ++ (record { car = car; phones = ps } ∷ []))
  last_fits ps s cs f n =
      let c : CarIds = record { car = car; phones = ps } in
      let r = room cs f n in
      let k = r.few in
      record { few = rw length-append (omega arith); each = each_snoc (displaced cs) c r.each s; apart = apart_snoc (displaced cs) c r.apart r.new }

-- ---- lists of phones

pub empty_list : list_in_range (list_of []) ≡ true
unfolding ids_fit some_of
empty_list = fits_of_list []

some_fits : (ps : List (List ℕ)) → 0 < length ps → ids_fit ps ≡ true → some_fit ps ≡ true
some_fits ps s h = rw (ne_eqb (length ps) 0 (λ e. omega arith), h)

pub one_fits : (id : List ℕ) → length id ≤ 32 → some_fit (id ∷ []) ≡ true
unfolding ids_fit some_of
one_fits id k = rw (le-ltb 32 (length id) k)

pub more_fits : (id : List ℕ) (ps : List (List ℕ)) → length id ≤ 32 → room_for id ps ≡ true → ids_fit ps ≡ true → some_fit (ps ++ (id ∷ [])) ≡ true
unfolding pushed
more_fits id ps k r h =
    some_fits (ps ++ (id ∷ [])) (rw length-append (omega arith))
    (sym (fits_of_list (ps ++ (id ∷ []))) ∙ rw (phones_of_list ps, r) at (range_append (list_of ps) id (fits_of_list ps ∙ h) k))

pub for_fits : (car : List ℕ) (cs : List CarIds) → Each cs → ids_fit (phones_for car cs) ≡ true
unfolding phones_for ids_fit some_of all_of
for_fits car [] h = refl
for_fits car (c ∷ cs) h =
    let p = both (car_fits c) _ h in
    cases (λ (ps : List (List ℕ)). ids_fit ps ≡ true) (same_bytes c.car car) _ _ (λ e. ids_fit_lem c.phones p.0) (λ e. for_fits car cs p.1)

-- ---- what a record says

long_is : (ps : List (List ℕ)) → any_long ps ≡ not (not (some_of (λ (p : List ℕ). ltb 32 (length p)) ps))
unfolding any_long some_of
long_is [] = refl
long_is (p ∷ ps) = cases (λ (b : Bool). cond (ltb 32 (length p)) true (any_long ps) ≡ not (not b)) (ltb 32 (length p)) _ _ (λ e. rw e) (λ e. rw e (long_is ps))

-- over the limits is what does not fit
pub over_is : (ps : List (List ℕ)) → over_limits ps ≡ not (ids_fit ps)
unfolding over_limits ids_fit
over_is ps = cases (λ (b : Bool). over_limits ps ≡ not b) (ltb 32 (length ps)) _ _ (λ e. rw e) (λ e. rw e (long_is ps))

accepted_some : (ps : List (List ℕ)) → over_limits ps ≡ false → lacking ps ≡ false → some_fit ps ≡ true
unfolding lacking
accepted_some [] h k = absurd (true≢false k)
accepted_some (p ∷ ps) h k = some_fits (p ∷ ps) (omega arith) (not-false _ (sym (over_is (p ∷ ps)) ∙ h))

accepted_each : (cs : List CarIds) → over cs ≡ false → some_of unreadable cs ≡ false → Each cs
unfolding over some_of unreadable all_of
accepted_each [] h k = refl
accepted_each (c ∷ cs) h k =
    let p = neither (over_limits c.phones) _ h in
    let q = neither (unreadable c) _ k in
    rw (accepted_some c.phones p.0 q.0) (accepted_each cs p.1 q.1)

pub accepted_fits : (bytes : List ℕ) (cs : List CarIds) → decoded bytes ≡ ok cs → CarsFit cs
accepted_fits bytes cs e =
    let a = accepted_well_formed bytes cs e in
    record { few = few a.0.written; each = accepted_each cs a.2 a.0.readable; apart = a.1 }
  where
    few : Versions bytes cs → length cs ≤ 4
    few (one m w) = omega arith
    few (two m n w) = n
