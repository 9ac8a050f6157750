-- What the functions use: the lengths of a record that restore accepts, and its bytes under the head of either version.
use mathlib.Core.Path.{◌≡◌, refl, ap, sym, ◌∙◌}
use mathlib.Core.Bool.{Bool, true, false}
use mathlib.Core.List.{List, [], ◌∷◌, ◌++◌}
use Prim.Native.Nat.{ℕ, ◌+◌, ◌-◌, ◌≤◌, ◌<◌}
use native.Mathlib.Omega.{arith}
use borrow.Author.Tests.{lt-ltb, le-ltb, ltb-false}
use lib.Dec.{ltb}
use lib.ListN.{length, take, drop, get_or, length-append}
use Rattle.arrays.specs.Arrays.{put}
use Rattle.phone_fields.proofs.Writing.{put_put}
use Rattle.saved_record.specs.SavedRecord.{CarIds, car_part, car_parts, encoded, over, Reading, malformed, car_twice, too_large, ok, decoded}
use Rattle.saved_record.specs.declared.Store.{Store}
use Rattle.saved_record.specs.declared.RecordError.{RecordError}
use Rattle.saved_record.specs.Store.{store_of, restored}
use Rattle.std.specs.Prelude.{Ok, Err}
use Rattle.saved_record.specs.declared.RecordError.TheVariants as Record
use Rattle.saved_record.proofs.Parts.{Digests, part_length}
use Rattle.saved_record.proofs.RoundTrip.{Versions, one, two, accepted_well_formed, written_back, version_one_lem, at_most_4358}
use Rattle.converter.specs.declared.ConversionError.TheVariants.{ManyCars, ShortOutput}
use Rattle.converter.specs.Convert.{conversion_error, encoded_as, Outcome, outcome_of, refusal, laid_down, many_cars, converted_from, converted}
use Rattle.converter.specs.Steps.{Accepted}
use Rattle.decode_record.proofs.Reading.{tail_part}
use Rattle.converter.proofs.Meaning.{means_converts, every}

-- ---- a head, and a body right after it

put_both : (out head body : List ℕ) → length head ≤ length out → put (put out 0 head) (length head) body ≡ put out 0 (head ++ body)
put_both out head body h = let z : 0 + length head ≡ length head = omega arith in rw z at (put_put out 0 head body (omega arith))

pub too_long : (out head body : List ℕ) → length out < length head + length body → laid_down (head ++ body) out ≡ outcome_of (Err (ShortOutput (length head + length body))) out
unfolding laid_down
too_long out head body h = let a = length-append head body in rw (lt-ltb (length out) (length (head ++ body)) (omega arith), a)

pub laid : (out head body : List ℕ) → length head + length body ≤ length out
    → laid_down (head ++ body) out ≡ outcome_of (Ok (length head + length body)) (put (put out 0 head) (length head) body)
unfolding laid_down
laid out head body h =
    let a = length-append head body in
    rw (le-ltb (length out) (length (head ++ body)) (omega arith), a, put_both out head body (omega arith))

-- ---- how long it is

parts_long : (cs : List CarIds) → 0 < length cs → Digests cs → 32 ≤ length (car_parts cs)
unfolding car_parts
parts_long [] h d = absurd (omega arith)
parts_long (c ∷ cs) h d =
    let digest = d.0 in
    let a = length-append (car_part c) (car_parts cs) in
    omega (arith, part_length c)

encoded_length : (cs : List CarIds) → 0 < length cs → length (encoded cs) ≡ 2 + length (car_parts cs)
unfolding encoded
encoded_length [] h = absurd (omega arith)
encoded_length (c ∷ cs) h = omega arith

-- version 1 leaves room for a longer head
pub record Sizes (r : List ℕ) : Type 0 where
  pub long : 2 ≤ length r
  pub short : length r ≤ 4358
  pub longer : get_or r 0 0 ≡ 1 → 1 + length r ≤ 4358

first : (r : List ℕ) (v : ℕ) (s : List ℕ) → r ≡ v ∷ s → get_or r 0 0 ≡ v
first r v s w = ap (λ (x : List ℕ). get_or x 0 0) w

sizes_of : (r : List ℕ) (cs : List CarIds) → Versions r cs → Digests cs → over cs ≡ false → Sizes r
sizes_of r cs (one m w) d o =
    let l : length r ≡ length (1 ∷ car_parts cs) = ap length w in
    let e = encoded_length cs (omega arith) in
    let p = parts_long cs (omega arith) d in
    let s = at_most_4358 cs (omega arith) d o in
    record { long = omega arith; short = omega arith; longer = λ h. omega arith }
sizes_of r cs (two m n w) d o =
    let l : length r ≡ length (2 ∷ length cs ∷ car_parts cs) = ap length w in
    let e = encoded_length cs m in
    let p = parts_long cs m d in
    let s = at_most_4358 cs n d o in
    let v = first r 2 (length cs ∷ car_parts cs) w in
    record { long = omega arith; short = omega arith; longer = λ h. omega arith }

record Said (r : List ℕ) (n : ℕ) : Type 0 where
  cars : List CarIds
  says : decoded r ≡ ok cars
  count : n ≡ length cars

said_of : (r : List ℕ) (n : ℕ) → Accepted r n → Said r n
unfolding Accepted
said_of r n a = record { cars = a.0; says = a.1; count = a.2 }

sizes : (r : List ℕ) (n : ℕ) → Said r n → Sizes r
sizes r n a = let w = accepted_well_formed r a.cars a.says in sizes_of r a.cars w.0.written w.0.digests w.2

-- ---- the body under the head of either version

second : (r : List ℕ) (cs : List CarIds) → Versions r cs → (get_or r 0 0 ≡ 1 → ⊥) → get_or r 0 0 ≡ 2
second r cs (one m w) h = absurd (h (first r 1 (car_parts cs) w))
second r cs (two m n w) h = first r 2 (length cs ∷ car_parts cs) w

headed : (r : List ℕ) (v : ℕ) → 0 < length r → get_or r 0 0 ≡ v → r ≡ v ∷ drop 1 r
headed [] v h e = absurd (omega arith)
headed (x ∷ r) v h e = ap (λ (y : ℕ). y ∷ r) e

body : (cs : List CarIds) → drop 2 (encoded cs) ≡ car_parts cs
unfolding encoded car_parts
body [] = refl
body (c ∷ cs) = refl

-- what stands in r from i on
abbrev from : ℕ → List ℕ → List ℕ
from i r = take (length r - i) (drop i r)

module _ (r : List ℕ) (n : ℕ) (a : Accepted r n) where
  said : Said r n
  said = said_of r n a

  pub record_long : 2 ≤ length r
  record_long = (sizes r n said).long

  pub record_short : length r ≤ 4358
  record_short = (sizes r n said).short

  pub record_longer : get_or r 0 0 ≡ 1 → 1 + length r ≤ 4358
  record_longer = (sizes r n said).longer

  pub one_as_two : get_or r 0 0 ≡ 1 → (out : List ℕ) → converted r true out ≡ laid_down (2 ∷ 1 ∷ from 1 r) out
  unfolding many_cars encoded_as
  one_as_two h =
      let v = version_one_lem r said.cars said.says h in
      rw (tail_part r 1) (means_converts r true (2 ∷ 1 ∷ drop 1 r) said.cars (record { says = said.says; held = refl; written = v.2 ∙ ap (λ (s : List ℕ). 2 ∷ 1 ∷ drop 1 s) (sym v.1) }))

  pub two_as_two : (get_or r 0 0 ≡ 1 → ⊥) → (out : List ℕ) → converted r true out ≡ laid_down (2 ∷ from 1 r) out
  unfolding many_cars encoded_as
  two_as_two h =
      let v = second r said.cars (accepted_well_formed r said.cars said.says).0.written h in
      let l = record_long in
      rw (tail_part r 1) (means_converts r true (2 ∷ drop 1 r) said.cars (record { says = said.says; held = refl; written = written_back r said.cars said.says v ∙ headed r 2 (omega arith) v }))

  pub one_as_one : get_or r 0 0 ≡ 1 → (out : List ℕ) → converted r false out ≡ laid_down (1 ∷ from 1 r) out
  unfolding many_cars encoded_as
  one_as_one h =
      let v = version_one_lem r said.cars said.says h in
      let one-car = v.0 in
      rw (tail_part r 1) (means_converts r false (1 ∷ drop 1 r) said.cars (record { says = said.says; held = le-ltb 1 (length said.cars) (omega arith); written = ap (λ (s : List ℕ). 1 ∷ drop 1 s) (sym v.1) }))

  pub two_as_one : (get_or r 0 0 ≡ 1 → ⊥) → n ≤ 1 → (out : List ℕ) → converted r false out ≡ laid_down (1 ∷ from 2 r) out
  unfolding many_cars encoded_as
  two_as_one h few =
      let v = second r said.cars (accepted_well_formed r said.cars said.says).0.written h in
      let same : drop 2 r ≡ car_parts said.cars = ap (λ (s : List ℕ). drop 2 s) (sym (written_back r said.cars said.says v)) ∙ body said.cars in
      let count = said.count in
      rw (tail_part r 2) (means_converts r false (1 ∷ drop 2 r) said.cars (record { says = said.says; held = le-ltb 1 (length said.cars) (omega arith); written = rw same }))

  pub many_cars_lem : (out : List ℕ) → 1 < n → converted r false out ≡ outcome_of (Err ManyCars) out
  unfolding converted converted_from many_cars refusal
  many_cars_lem out many = let count = said.count in rw (said.says, lt-ltb 1 (length said.cars) (omega arith))

-- ---- a record that is laid down fits

laid_fits : (r out : List ℕ) (n : ℕ) (b : Bool) → ltb (length out) (length r) ≡ b → (laid_down r out).answer ≡ Ok n → n ≤ length out
unfolding laid_down
laid_fits r out n true e h = let z = rw e at h in cc
laid_fits r out n false e h =
    let z = rw e at h in
    let m : length r ≡ n = cc in
    let l = ltb-false (length out) (length r) e in
    omega arith

done_fits : (r : List ℕ) (target : Bool) (out : List ℕ) (n : ℕ) → (converted r target out).answer ≡ Ok n → n ≤ length out
unfolding converted refusal
done_fits r target out n =
    every (λ o. o.answer ≡ Ok n → n ≤ length out) out (λ a h. cc) (λ s. laid_fits s out n (ltb (length out) (length s)) refl) (decoded r) target

pub given_fits : (n : ℕ) (after r : List ℕ) (target : Bool) (out : List ℕ) → outcome_of (Ok n) after ≡ converted r target out → length after ≡ length out → n ≤ length after
given_fits n after r target out e k =
    let f = done_fits r target out n (ap (λ (o : Outcome). o.answer) (sym e)) in
    omega arith

-- ---- by what restore says

pub accepted : (r : List ℕ) (s : Store) → Ok s ≡ restored (decoded r) → Accepted r s.count
unfolding restored store_of Accepted
accepted r s e = go (decoded r) refl
  where
    go : (x : Reading) → decoded r ≡ x → Accepted r s.count
    go malformed q = let z = rw q at e in cc
    go car_twice q = let z = rw q at e in cc
    go too_large q = let z = rw q at e in cc
    go (ok cs) q = let z = rw q at e in let n : s ≡ store_of cs = cc in (cs, q, ap (λ (x : Store). x.count) n)

pub refused_as : (r : List ℕ) (e : RecordError) (target : Bool) (out : List ℕ) → Err e ≡ restored (decoded r) → outcome_of (Err (conversion_error e)) out ≡ converted r target out
unfolding restored converted converted_from refusal
refused_as r e target out h = go (decoded r) refl
  where
    go : (x : Reading) → decoded r ≡ x → outcome_of (Err (conversion_error e)) out ≡ converted r target out
    go malformed q = let z = rw q at h in let same : e ≡ Record.Malformed = cc in rw (q, same)
    go car_twice q = let z = rw q at h in let same : e ≡ Record.CarTwice = cc in rw (q, same)
    go too_large q = let z = rw q at h in let same : e ≡ Record.TooLarge = cc in rw (q, same)
    go (ok cs) q = let z = rw q at h in cc
