-- The record read: a car's part, and what stands before the cars.
use mathlib.Core.Path.{◌≡◌, refl, ap, sym, ◌∙◌}
use mathlib.Core.Bool.{Bool, true, false, cond}
use Rattle.std.specs.Prelude.{Option, Some, None, Result, Ok, Err}
use mathlib.Core.List.{List, [], ◌∷◌, append-nil}
use Prim.Native.Nat.{ℕ, zero, suc, ◌+◌, ◌-◌, ◌≤◌, ◌<◌}
use native.Mathlib.Omega.{arith}
use borrow.Author.Tests.{eq-eqb, ne_eqb, lt-ltb, le-ltb, ltb-true, ltb-false}
use lib.Dec.{eqb, ltb}
use lib.ListN.{length, take, drop, get_or, replicate, drop_of_length-le, length-append, length-drop}
use lib.Seq.{drop-cons, take_all, length-take-le}
use Rattle.arrays.specs.Arrays.{put}
use Rattle.arrays.proofs.Laws.{cond_same}
use Rattle.phones.specs.Phones.{list_of}
use Rattle.phone_fields.specs.declared.FieldsRead.{FieldsRead}
use Rattle.phone_fields.specs.declared.FieldsError.{FieldsError}
use Rattle.phone_fields.specs.declared.FieldsError.TheVariants as Fields
use Rattle.phone_fields.specs.PhoneFields.{fields, Read, not_whole, whole, PhonesRead, read_fields, over_limits, fields_read}
use Rattle.phone_fields.proofs.Laws.{ReadFields, refused, are, fields_read_lem}
use Rattle.decode_record.specs.declared.CarRead.{CarRead}
use Rattle.saved_record.specs.declared.Store.{Store}
use Rattle.saved_record.specs.declared.RecordError.{RecordError}
use Rattle.saved_record.specs.declared.RecordError.TheVariants.{Malformed}
use Rattle.saved_record.specs.SavedRecord.{CarIds, of_car, read_counted, read_after, read_car, read_cars, read_two, read_version, nothing_after, judged, decoded}
use Rattle.saved_record.specs.Store.{restored}
use Rattle.decode_record.specs.Steps.{kept_car, car_read, part_of}

-- ---- a car's part

pub digest_length : (s : List ℕ) → 33 ≤ length s → length (take 32 s) ≡ 32
digest_length s h = length-take-le 32 s (omega arith)

-- the digest copied into an array
pub car_copied : (s : List ℕ) → 32 ≤ length s → put (replicate 32 0) 0 (take 32 s) ≡ take 32 s
unfolding put
car_copied s h = let l : length (take 32 s) ≡ 32 = length-take-le 32 s h in rw l (append-nil (take 32 s))

pub part_short : (s : List ℕ) → length s < 33 → read_car s ≡ not_whole
unfolding read_car read_after
part_short s h = rw (drop_of_length-le s {i = 32} (omega arith))

pub part_counted : (s : List ℕ) → 33 ≤ length s → read_car s ≡ read_counted (take 32 s) (get_or s 32 0) (drop 33 s)
unfolding read_car read_after
part_counted s h = rw (drop-cons s 32 0 (omega arith))

pub counted_none : (car : List ℕ) (n : ℕ) (s : List ℕ) → n ≡ 0 → read_counted car n s ≡ not_whole
unfolding read_counted
counted_none car n s h = rw h

pub counted : (car : List ℕ) (n : ℕ) (s : List ℕ) → (n ≡ 0 → ⊥) → read_counted car n s ≡ of_car car (read_fields n s)
unfolding read_counted
counted car zero s h = absurd (h refl)
counted car (suc n) s h = refl

-- a part from a on to the end
pub tail_part : (s : List ℕ) (a : ℕ) → take (length s - a) (drop a s) ≡ drop a s
tail_part s a = take_all (length s - a) (drop a s) (rw length-drop (omega arith))

pub part_none : (s : List ℕ) → (33 ≤ length s → get_or s 32 0 ≡ 0) → None ≡ car_read (length s) (read_car s)
unfolding car_read
part_none s h = go (ltb (length s) 33) refl
  where
    go : (b : Bool) → ltb (length s) 33 ≡ b → None ≡ car_read (length s) (read_car s)
    go true e = rw (part_short s (ltb-true (length s) 33 e))
    go false e = let l = ltb-false (length s) 33 e in rw (part_counted s l, counted_none (take 32 s) (get_or s 32 0) (drop 33 s) (h l))

-- what is answered by what is said of the phones, which stand after 33 bytes of s
abbrev pub answered : List ℕ → Result FieldsRead FieldsError → Option CarRead
answered s (Ok read) = Some (part_of s read.phones read.used false)
answered s (Err Fields.Malformed) = None
answered s (Err (Fields.TooLarge used)) = Some (part_of s (list_of []) used true)

-- how many bytes are used
abbrev pub used_of : Result FieldsRead FieldsError → ℕ
used_of (Ok read) = read.used
used_of (Err Fields.Malformed) = 0
used_of (Err (Fields.TooLarge used)) = used

used_within : (n : ℕ) (o : PhonesRead) → used_of (fields_read n o) ≤ n
unfolding fields_read
used_within n not_whole = omega arith
used_within n (whole ps rest) = go (over_limits ps)
  where
    go : (b : Bool) → used_of (cond b (Err (Fields.TooLarge (n - length rest))) (Ok (record { phones = list_of ps; used = n - length rest }))) ≤ n
    go true = omega arith
    go false = omega arith

answered_whole : (s : List ℕ) (ps : List (List ℕ)) (rest : List ℕ) (n : ℕ) → n + 33 ≡ length s → length rest ≤ n
    → answered s (fields_read n (whole ps rest)) ≡ car_read (length s) (of_car (take 32 s) (whole ps rest))
unfolding fields_read car_read of_car kept_car
answered_whole s ps rest n long within = go (over_limits ps)
  where
    all : 33 + (n - length rest) ≡ length s - length rest
    all = omega arith

    go : (b : Bool) → answered s (cond b (Err (Fields.TooLarge (n - length rest))) (Ok (record { phones = list_of ps; used = n - length rest })))
        ≡ Some (record { over = b; car = record { car = take 32 s; phones = list_of (cond b [] ps) }; used = length s - length rest })
    go true = rw all
    go false = rw all

module _ (s : List ℕ) (n : ℕ) (long : 33 ≤ length s) (r : Result FieldsRead FieldsError) (e : r ≡ fields_read (length (take (length s - 33) (drop 33 s))) (read_fields n (take (length s - 33) (drop 33 s)))) where
  -- the phones stand after 33 bytes, and end within s
  pub part_within : 33 + used_of r ≤ length s
  part_within =
      let l : length (take (length s - 33) (drop 33 s)) ≡ length s - 33 = rw (tail_part s 33) (length-drop 33 s) in
      let u : used_of r ≤ length (take (length s - 33) (drop 33 s)) = rw e (used_within _ _) in
      omega arith

  pub answered_all : get_or s 32 0 ≡ n → (n ≡ 0 → ⊥) → answered s r ≡ car_read (length s) (read_car s)
  unfolding fields_read car_read of_car
  answered_all en some-phones =
      rw (e, tail_part s 33, part_counted s long, en, counted (take 32 s) n (drop 33 s) some-phones) (go (fields_read_lem n (drop 33 s)))
    where
      m : length (drop 33 s) + 33 ≡ length s
      m = rw length-drop (omega arith)

      go : ReadFields n (drop 33 s) → answered s (fields_read (length (drop 33 s)) (read_fields n (drop 33 s))) ≡ car_read (length s) (of_car (take 32 s) (read_fields n (drop 33 s)))
      go (refused q) = rw q
      go (are ps rest q w many f) =
          let l : length (fields ps) + length rest ≡ length (drop 33 s) = sym (length-append (fields ps) rest) ∙ ap length w in
          rw q (answered_whole s ps rest (length (drop 33 s)) m (omega arith))

-- ---- what stands before the cars

abbrev said : Read (List CarIds) → Result Store RecordError
said o = restored (judged (nothing_after o))

said_refused : (o : Read (List CarIds)) → o ≡ not_whole → said o ≡ Err Malformed
unfolding restored judged nothing_after
said_refused o e = rw e

-- a number of cars that is not 1 to 4; where there is no byte, none
pub two_refused : (s : List ℕ) → (0 < get_or s 0 0 → 4 < get_or s 0 0) → said (read_two s) ≡ Err Malformed
unfolding read_two
two_refused [] h = said_refused not_whole refl
two_refused (zero ∷ rest) h = said_refused not_whole refl
two_refused (suc n ∷ rest) h = said_refused _ (rw (lt-ltb 4 (suc n) (h (omega arith))) (cond_same (eqb (suc n) 0) not_whole))

pub two_cars : (s : List ℕ) → 1 ≤ get_or s 0 0 → get_or s 0 0 ≤ 4 → said (read_two s) ≡ said (read_cars (get_or s 0 0) (take (length s - 1) (drop 1 s)))
unfolding read_two
two_cars [] some few = absurd (omega arith)
two_cars (n ∷ rest) some few = rw (tail_part (n ∷ rest) 1, ne_eqb n 0 (λ e. omega arith), le-ltb 4 n few)

pub version_one : (r : List ℕ) → get_or r 0 0 ≡ 1 → restored (decoded r) ≡ said (read_cars 1 (take (length r - 1) (drop 1 r)))
unfolding read_version decoded
version_one [] h = absurd (omega arith)
version_one (v ∷ rest) h = rw (tail_part (v ∷ rest) 1, eq-eqb v 1 h)

pub version_two : (r : List ℕ) → get_or r 0 0 ≡ 2 → restored (decoded r) ≡ said (read_two (take (length r - 1) (drop 1 r)))
unfolding read_version decoded
version_two [] h = absurd (omega arith)
version_two (v ∷ rest) h = rw (tail_part (v ∷ rest) 1, h)

pub version_other : (r : List ℕ) → (get_or r 0 0 ≡ 1 → ⊥) → (get_or r 0 0 ≡ 2 → ⊥) → restored (decoded r) ≡ Err Malformed
unfolding read_version decoded
version_other [] one two = said_refused not_whole refl
version_other (v ∷ rest) one two = said_refused _ (rw (ne_eqb v 1 one, ne_eqb v 2 two))
