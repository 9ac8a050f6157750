-- Steps of the loop that reads the cars: a car from what remains, then the others from the tail after it.
use mathlib.Core.Path.{◌≡◌, refl, ap, sym, ◌∙◌}
use mathlib.Core.Bool.{Bool, true, false, cond}
use mathlib.Core.List.{List, [], ◌∷◌, ◌++◌, map, append-nil}
use Prim.Native.Nat.{ℕ, zero, suc, ◌+◌, ◌-◌, ◌≤◌, ◌<◌}
use native.Mathlib.Omega.{arith}
use lib.ListN.{length, take, drop, set, replicate, length-append, length-map, length-set}
use lib.Seq.{drop_at, take_at}
use lib.Dec.{eqb}
use borrow.Author.Tests.{eqb-true, eqb-false}
use Rattle.arrays.specs.Arrays.{padded}
use Rattle.arrays.proofs.Laws.{padded_push}
use Rattle.phones.specs.Ids.{some_of}
use Rattle.phones.proofs.Search.{some_snoc, none_cons}
use Rattle.phone_fields.specs.PhoneFields.{Read, not_whole, whole, over_limits}
use Rattle.phone_fields.proofs.Reading.{after, after_one, after_none, after_whole}
use Rattle.saved_record.specs.declared.CarPhones.{CarPhones}
use Rattle.decode_record.specs.declared.CarRead.{CarRead}
use Rattle.std.specs.Prelude.{Result, Ok, Err, Some, None}
use Rattle.saved_record.specs.declared.Store.{Store}
use Rattle.saved_record.specs.declared.RecordError.{RecordError}
use Rattle.saved_record.specs.declared.RecordError.TheVariants.{Malformed, CarTwice, TooLarge}
use Rattle.saved_record.specs.SavedRecord.{CarIds, car_part, read_car, read_on, read_cars, nothing_after, has_car, twice, over, judged}
use Rattle.saved_record.specs.Store.{car_of, laid_car, empty_car, cars_of, store_of, restored}
use Rattle.decode_record.specs.Steps.{kept_car, car_read}
use Rattle.saved_record.proofs.Parts.{ReadCar, refused, is, car_read_lem}
use Rattle.decode_record.proofs.Reading.{tail_part}

-- ---- what is kept of a car

-- its digest
has_kept : (car : List ℕ) (cs : List CarIds) → has_car car (map car_of (map kept_car cs)) ≡ has_car car cs
unfolding has_car some_of car_of kept_car
has_kept car [] = refl
has_kept car (c ∷ cs) = rw (has_kept car cs)

twice_kept : (cs : List CarIds) → twice (map car_of (map kept_car cs)) ≡ twice cs
unfolding twice car_of kept_car
twice_kept [] = refl
twice_kept (c ∷ cs) = rw (has_kept c.car cs, twice_kept cs)

-- and, where none is over the limits, its phones
kept_laid : (cs : List CarIds) → over cs ≡ false → map kept_car cs ≡ map laid_car cs
unfolding over kept_car laid_car
kept_laid [] h = refl
kept_laid (c ∷ cs) h =
    let n = none_cons (λ (x : CarIds). over_limits x.phones) c cs h in
    rw (n.0, kept_laid cs n.1)

-- ---- a car from what remains

-- what is told of a whole part
pub record Told (s : List ℕ) (r : CarRead) (c : CarIds) : Type 0 where
  pub fits : r.used ≤ length s
  pub reading : read_car s ≡ whole c (take (length s - r.used) (drop r.used s))
  pub kept : r.car ≡ kept_car c
  pub limits : r.over ≡ over_limits c.phones

module _ (s : List ℕ) where
  pub told_none : None ≡ car_read (length s) (read_car s) → read_car s ≡ not_whole
  unfolding car_read
  told_none e = go (car_read_lem s)
    where
      go : ReadCar s → read_car s ≡ not_whole
      go (refused q) = q
      go (is c rest q w d u) = let z = rw q at e in cc

  pub told : (r : CarRead) → Some r ≡ car_read (length s) (read_car s) → (c : CarIds) × Told s r c
  unfolding car_read
  told r e = go (car_read_lem s)
    where
      go : ReadCar s → (c : CarIds) × Told s r c
      go (refused q) = let z = rw q at e in cc
      go (is c rest q w d u) =
          let z = rw q at e in
          let same : r ≡ record { over = over_limits c.phones; car = kept_car c; used = length s - length rest } = cc in
          let used : r.used ≡ length s - length rest = rw same in
          let l : length (car_part c) + length rest ≡ length s = sym (length-append (car_part c) rest) ∙ ap length w in
          let tail : drop (length (car_part c)) s ≡ rest = rw (← w) (drop_at (car_part c) rest (length (car_part c)) refl) in
          let n : length (car_part c) ≡ r.used = omega arith in
          (c, record { fits = omega arith; reading = rw (tail_part s r.used, ← n, tail) q; kept = rw same; limits = rw same })

-- ---- the cars read so far

pub record Gathered (count : ℕ) (part : List ℕ) (cars : List CarPhones) (passed : Bool) (rest : List ℕ) (i : ℕ) (done : List CarIds) : Type 0 where
  pub many : length done ≡ i
  pub upto : i ≤ count
  pub long : length cars ≡ 4
  pub laid : cars ≡ padded 4 empty_car (map kept_car done)
  pub limits : passed ≡ over done
  pub reading : read_cars count part ≡ after done (read_cars (count - i) rest)

pub gathered_none : (count : ℕ) (part : List ℕ) → Gathered count part (replicate 4 empty_car) false part 0 []
unfolding over some_of after padded
gathered_none count part =
    let z : count - 0 ≡ count = omega arith in
    record { many = refl; upto = omega arith; long = refl; laid = refl; limits = refl; reading = rw z }

-- what is left to read
read_next : (left : ℕ) (s : List ℕ) → 0 < left → read_cars left s ≡ read_on (read_car s) (read_cars (left - 1))
unfolding read_cars
read_next zero s h = absurd (omega arith)
read_next (suc left) s h = let e : suc left - 1 ≡ left = omega arith in rw e

map_snoc : {A B : Type 0} (f : A → B) (xs : List A) (x : A) → map f (xs ++ (x ∷ [])) ≡ map f xs ++ (f x ∷ [])
map_snoc f [] x = refl
map_snoc f (y ∷ xs) x = rw (map_snoc f xs x)

module _ (count : ℕ) (part : List ℕ) (cars : List CarPhones) (passed : Bool) (rest : List ℕ) (i : ℕ) (done : List CarIds) (few : count ≤ 4) (g : Gathered count part cars passed rest i done) where
  -- what remains cannot be read
  pub gathered_refused : i < count → read_car rest ≡ not_whole → Err Malformed ≡ restored (judged (nothing_after (read_cars count part)))
  unfolding read_on restored judged nothing_after
  gathered_refused h e = rw (g.reading, read_next (count - i) rest (omega arith), e, after_none done)

  pub gathered_more : (r : CarRead) (c : CarIds) → i < count → Told rest r c
      → Gathered count part (set cars i r.car) (cond passed true r.over) (take (length rest - r.used) (drop r.used rest)) (i + 1) (done ++ (c ∷ []))
  unfolding over read_on
  gathered_more r c h t =
      let m = g.many in
      let n : length (map kept_car done) ≡ i = length-map done kept_car ∙ m in
      let next : count - i - 1 ≡ count - (i + 1) = omega arith in
      record {
        many = rw length-append (omega arith);
        upto = omega arith;
        long = rw length-set g.long;
        laid = rw (g.laid, t.kept, map_snoc kept_car done c, ← n) (padded_push 4 empty_car (kept_car c) (map kept_car done) (omega arith));
        limits = rw (g.limits, t.limits) (sym (some_snoc (λ (x : CarIds). over_limits x.phones) done c));
        reading =
            g.reading
            ∙ rw (read_next (count - i) rest (omega arith), t.reading, next)
            (after_one done c (read_cars (count - (i + 1)) (take (length rest - r.used) (drop r.used rest))));
      }

  module _ (all : count ≤ i) where
    whole_read : read_cars count part ≡ whole done rest
    unfolding read_cars
    whole_read =
        let u = g.upto in
        let z : count - i ≡ 0 = omega arith in
        g.reading ∙ rw z (after_whole done [] rest ∙ rw (append-nil done))

    trailing : (t : List ℕ) → 0 < length t → Err Malformed ≡ restored (judged (nothing_after (whole done t)))
    unfolding restored judged nothing_after
    trailing [] h = absurd (omega arith)
    trailing (x ∷ t) h = refl

    pos : (n : ℕ) → eqb n 0 ≡ false → 0 < n
    pos n h = let z = eqb-false n 0 h in grind arith

    -- something follows the cars
    pub gathered_trailing : eqb (length rest) 0 ≡ false → Err Malformed ≡ restored (judged (nothing_after (read_cars count part)))
    gathered_trailing h = rw whole_read (trailing rest (pos (length rest) h))

    cars_held : cars_of (record { cars = cars; count = count }) ≡ map car_of (map kept_car done)
    unfolding cars_of padded
    cars_held =
        let u = g.upto in
        let m = g.many in
        let n : length (map kept_car done) ≡ count = length-map done kept_car ∙ (omega arith) in
        rw (g.laid, take_at (map kept_car done) (replicate (4 - length (map kept_car done)) empty_car) count n)

    module _ (end : eqb (length rest) 0 ≡ true) (t : Bool) (et : t ≡ twice (cars_of (record { cars = cars; count = count }))) where
      twice_done : twice done ≡ t
      twice_done = sym (et ∙ rw cars_held (twice_kept done))

      nothing_left : (s : List ℕ) → length s ≡ 0 → nothing_after (whole done s) ≡ nothing_after (whole done [])
      nothing_left [] h = refl
      nothing_left (x ∷ s) h = absurd (omega arith)

      said : restored (judged (nothing_after (read_cars count part))) ≡ restored (judged (nothing_after (whole done [])))
      said = rw (whole_read, nothing_left rest (eqb-true (length rest) 0 end))

      pub gathered_twice : t ≡ true → Err CarTwice ≡ restored (judged (nothing_after (read_cars count part)))
      unfolding restored judged nothing_after
      gathered_twice h = sym (said ∙ rw (twice_done, h))

      pub gathered_large : t ≡ false → passed ≡ true → Err TooLarge ≡ restored (judged (nothing_after (read_cars count part)))
      unfolding restored judged nothing_after
      gathered_large h p = sym (said ∙ rw (twice_done, h, ← g.limits, p))

      pub gathered_all : t ≡ false → passed ≡ false
          → ◌≡◌ {A = Result Store RecordError} (Ok (record { cars = cars; count = count })) (restored (judged (nothing_after (read_cars count part))))
      unfolding restored judged nothing_after store_of
      gathered_all h p =
          let u = g.upto in
          let o : over done ≡ false = sym g.limits ∙ p in
          let m : length done ≡ count = g.many ∙ (omega arith) in
          let l : cars ≡ padded 4 empty_car (map laid_car done) = g.laid ∙ rw (kept_laid done o) in
          sym (said ∙ rw (twice_done, h, o, m, l))

-- what is not whole is refused
pub refused_part : (o : Read (List CarIds)) → o ≡ not_whole → Err Malformed ≡ restored (judged (nothing_after o))
unfolding restored judged nothing_after
refused_part o e = rw e
