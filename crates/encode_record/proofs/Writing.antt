-- The record written: the bytes before the cars, then the part of each car, zeros past them.
use Rattle.std.proofs.Common.{◌≡◌, refl, sym, ◌∙◌, List, [], ◌∷◌, ◌++◌, append_assoc, append-nil, ℕ, ◌+◌, ◌*◌, ◌≤◌, ◌<◌, min, add-one, arith, length, take, get_or, replicate, length-append}
use lib.ListN.{set, length-set, length-map, length-replicate, get_or-map}
use lib.Seq.{take_all, take-suc}
use Rattle.arrays.specs.Arrays.{padded, put}
use Rattle.arrays.proofs.Laws.{padded_push, put_length, put_padded}
use Rattle.phone_fields.specs.PhoneFields.{fields}
use Rattle.phone_fields.proofs.Writing.{put_byte, put_put}
use Rattle.saved_record.specs.declared.CarPhones.{CarPhones}
use Rattle.saved_record.specs.declared.SavedRecord.{SavedRecord}
use Rattle.saved_record.specs.declared.Store.{Store}
use Rattle.saved_record.specs.Store.{car_of, cars_of}
use Rattle.saved_record.proofs.Laws.{used, used_clamped, used_length}
use Rattle.saved_record.specs.SavedRecord.{CarIds, car_part, car_parts, encoded, record_of, no_record}
use Rattle.encode_record.specs.Steps.{PutPart}

-- ---- a car's part

-- a digest, a count and the phones, each right after the one before
pub put_part : (d : List ℕ) (at : ℕ) (c : CarIds) (n : ℕ) → length c.car ≡ 32 → n ≡ length c.phones → at + length (car_part c) ≤ length d
    → put (set (put d at c.car) (at + 32) n) (at + 33) (fields c.phones) ≡ put d at (car_part c)
unfolding car_part
put_part d at c n far en room =
    let l = length-append c.car (length c.phones ∷ fields c.phones) in
    let long = put_length d at c.car (omega arith) in
    let e : at + 33 ≡ at + 32 + 1 = omega arith in
    rw (e, put_byte (put d at c.car) (at + 32) n (fields c.phones) (omega arith), ← far, put_put d at c.car (n ∷ fields c.phones) (omega arith), en)

-- ---- the parts one after the other

parts_snoc : (cs : List CarIds) (c : CarIds) → car_parts (cs ++ (c ∷ [])) ≡ car_parts cs ++ car_part c
unfolding car_parts
parts_snoc [] c = append-nil (car_part c)
parts_snoc (b ∷ cs) c = rw (parts_snoc cs c, append_assoc (car_part b) (car_parts cs) (car_part c))

-- where the loop stands: the parts of the first i cars stand after the two bytes before them
pub record Filled (cs : List CarIds) (bytes : List ℕ) (len i : ℕ) : Type 0 where
  pub holds : bytes ≡ padded 4358 0 (2 ∷ length cs ∷ car_parts (take i cs))
  pub place : len ≡ length (2 ∷ length cs ∷ car_parts (take i cs))
  pub long : length bytes ≡ 4358
  pub room : len ≤ 2 + 1089 * i

head_written : (room n : ℕ) → 2 ≤ room → set (set (padded {A = ℕ} room 0 []) 0 2) 1 n ≡ padded room 0 (2 ∷ n ∷ [])
head_written room n h =
    let one : set (padded {A = ℕ} room 0 []) 0 2 ≡ padded room 0 (2 ∷ []) = padded_push {A = ℕ} room 0 2 [] (omega arith) in
    rw one (padded_push {A = ℕ} room 0 n (2 ∷ []) (omega arith))

pub filled_none : (cs : List CarIds) (n : ℕ) → length cs ≡ n → Filled cs (set (set (replicate 4358 0) 0 2) 1 n) 2 0
unfolding car_parts padded
filled_none cs n e =
    record {
      holds = rw e (head_written 4358 n (omega arith));
      place = refl;
      long = rw (length-set, length-set) (length-replicate {A = ℕ} 4358 0);
      room = omega arith;
    }

module _ (cs : List CarIds) (bytes : List ℕ) (len i : ℕ) (w : Filled cs bytes len i) where
  pub filled_more : (d : CarIds) → i < length cs → (next : List ℕ) (to : ℕ) → i < 4 → PutPart bytes len (get_or cs i d) next to → Filled cs next to (i + 1)
  filled_more d more next to few p =
      let c = get_or cs i d in
      let x : List ℕ = 2 ∷ length cs ∷ car_parts (take i cs) in
      let e : car_parts (take (i + 1) cs) ≡ car_parts (take i cs) ++ car_part c = rw (add-one, take-suc cs i d more) (parts_snoc (take i cs) c) in
      let l : len ≡ length x = w.place in
      let a = length-append (car_parts (take i cs)) (car_part c) in
      let pl = p.place in
      let sh = p.short in
      let rm = w.room in
      let lg = w.long in
      record {
        holds = rw (p.bytes, w.holds, l, e) (put_padded 4358 0 x (car_part c));
        place = rw e (omega (arith, w.place));
        long = rw p.bytes (put_length bytes len (car_part c) (omega arith) ∙ lg);
        room = omega arith;
      }

pub filled_all : (cs : List CarIds) (bytes : List ℕ) (len i : ℕ) → Filled cs bytes len i → (length cs ≡ 0 → ⊥) → length cs ≤ i
    → ◌≡◌ {A = SavedRecord} (record { bytes = bytes; len = len }) (record_of (encoded cs))
unfolding record_of encoded
filled_all [] bytes len i w some_cars h = absurd (some_cars refl)
filled_all (c ∷ cs) bytes len i w some_cars h =
    let full : take i (c ∷ cs) ≡ c ∷ cs = take_all i (c ∷ cs) h in
    let l : len ≡ length (2 ∷ length (c ∷ cs) ∷ car_parts (c ∷ cs)) = rw full at w.place in
    let b : bytes ≡ padded 4358 0 (2 ∷ length (c ∷ cs) ∷ car_parts (c ∷ cs)) = rw full at w.holds in
    λ j. record { bytes = b j; len = l j }

-- ---- the cars in use

-- an empty store
pub none_written : (s : Store) (n : ℕ) → length s.cars ≡ 4 → n ≡ min s.count 4 → n ≡ 0 → no_record ≡ record_of (encoded (cars_of s))
unfolding no_record encoded
none_written s n far en z = go (cars_of s) (sym (used_clamped s n far en) ∙ rw z)
  where
    go : (cs : List CarIds) → cs ≡ [] → no_record ≡ record_of (encoded cs)
    go cs e = rw e

module _ (s : Store) (n : ℕ) (far : length s.cars ≡ 4) (en : n ≡ min s.count 4) where
  many : length (used n s.cars) ≡ n
  many = used_length n s.cars (omega arith)

  pub head : Filled (used n s.cars) (set (set (replicate 4358 0) 0 2) 1 n) 2 0
  head = filled_none (used n s.cars) n many

  module _ (bytes : List ℕ) (len i : ℕ) (w : Filled (used n s.cars) bytes len i) where
    pub next : (d : CarPhones) (after : List ℕ) (end : ℕ) → i < length (take n s.cars) → PutPart bytes len (car_of (get_or (take n s.cars) i d)) after end → Filled (used n s.cars) after end (i + 1)
    next d after end h p =
        let m = many in
        let l = length-map (take n s.cars) car_of in
        filled_more (used n s.cars) bytes len i w (car_of d) (omega arith) after end (omega arith) (rw (get_or-map car_of (take n s.cars) i d) p)

    pub written : (n ≡ 0 → ⊥) → length (take n s.cars) ≤ i → ◌≡◌ {A = SavedRecord} (record { bytes = bytes; len = len }) (record_of (encoded (cars_of s)))
    written some h = let m = many in let l = length-map (take n s.cars) car_of in rw (← used_clamped s n far en) (filled_all (used n s.cars) bytes len i w (λ z. some (sym m ∙ z)) (omega arith))
