-- The lines of all cars, one after the other.
use Rattle.std.proofs.Common.{◌≡◌, refl, ◌∙◌, List, [], ◌++◌, ℕ, ◌+◌, ◌≤◌, ◌<◌, zero-add, add-one, arith, length, drop, get_or, replicate, drop_of_length-le, drop-cons}
use Rattle.std.proofs.Math.ListN.{length-replicate}
use Rattle.arrays.specs.Arrays.{padded}
use Rattle.arrays.proofs.Laws.{put_padded}
use Rattle.ascii.specs.Ascii.{ascii}
use Rattle.saved_record.specs.SavedRecord.{CarIds, car_part, car_parts}
use Rattle.car_lines.specs.Lines.{line, car_lines}
use Rattle.car_lines.specs.Walk.{Wrote, Stands}
use Rattle.listing.specs.declared.Listing.{Listing}
use Rattle.listing.specs.Listing.{each_car, accepted_lines, listed}
use Rattle.car_lines.proofs.Walk.{Going, going_first, going_fits, going_on, going_done, stands_first, stands_next}

-- ---- a listing

-- what is written into zeros is a listing
pub wrote_listed : (text bytes : List ℕ) (len : ℕ) → Wrote (replicate {A = ℕ} 9414 0) 0 text bytes len → ◌≡◌ {A = Listing} (record { bytes = bytes; len = len }) (listed text)
unfolding listed padded
wrote_listed text bytes len w =
    let l : len ≡ length text = w.place ∙ zero-add (length text) in
    rw (w.bytes, zeros, put_padded 9414 0 [] text, l)
  where
    zeros : replicate {A = ℕ} 9414 0 ≡ padded 9414 0 []
    zeros = refl

-- ---- the cars, one after the other

module _ (cs : List CarIds) (d : CarIds) (i : ℕ) (h : i < length cs) where
  pub next_part : car_parts (drop i cs) ≡ car_part (get_or cs i d) ++ car_parts (drop (i + 1) cs)
  unfolding car_parts
  next_part = rw (add-one, drop-cons cs i d h)

  pub next_lines : each_car (drop i cs) ≡ car_lines (get_or cs i d) ++ each_car (drop (i + 1) cs)
  unfolding each_car
  next_lines = rw (add-one, drop-cons cs i d h)

-- where the loop stands: the lines of the cars that are left, and their parts in the record
pub record Listed (saved : List ℕ) (cs : List CarIds) (bytes : List ℕ) (len next i : ℕ) : Type 0 where
  pub going : Going (replicate {A = ℕ} 9414 0) 0 (accepted_lines cs) bytes len (each_car (drop i cs))
  pub stands : Stands saved next (car_parts (drop i cs))

pub listed_first : (saved : List ℕ) (cs : List CarIds) (from : ℕ) → Stands saved from (car_parts cs) → length (accepted_lines cs) ≤ 9414
    → (bytes : List ℕ) (len : ℕ) → Wrote (replicate {A = ℕ} 9414 0) 0 (ascii "answer=ok\n") bytes len → length bytes ≡ 9414 → Listed saved cs bytes len from 0
unfolding accepted_lines line
listed_first saved cs from h fits bytes len w l =
    let n : length (replicate {A = ℕ} 9414 0) ≡ 9414 = length-replicate {A = ℕ} 9414 0 in
    let g = going_first (replicate {A = ℕ} 9414 0) 0 (accepted_lines cs) (omega arith) in
    record { going = going_on (replicate {A = ℕ} 9414 0) 0 (accepted_lines cs) (replicate {A = ℕ} 9414 0) 0 (accepted_lines cs) g (ascii "answer=ok\n") (each_car cs) refl bytes len w (omega arith); stands = h }

module _ (saved : List ℕ) (cs : List CarIds) (bytes : List ℕ) (len next i : ℕ) (w : Listed saved cs bytes len next i) where
  module _ (d c : CarIds) (more : i < length cs) (e : get_or cs i d ≡ c) where
    lines : each_car (drop i cs) ≡ car_lines c ++ each_car (drop (i + 1) cs)
    lines = next_lines cs d i more ∙ rw e

    parts : Stands saved next (car_part c ++ car_parts (drop (i + 1) cs))
    parts = let p : car_parts (drop i cs) ≡ car_part c ++ car_parts (drop (i + 1) cs) = next_part cs d i more ∙ rw e in rw p at w.stands

    pub listed_stands : Stands saved next (car_part c)
    listed_stands = stands_first saved next (car_part c) (car_parts (drop (i + 1) cs)) parts

    pub listed_fits : len + length (car_lines c) ≤ length bytes
    listed_fits = going_fits (replicate {A = ℕ} 9414 0) 0 (accepted_lines cs) bytes len (each_car (drop i cs)) w.going (car_lines c) (each_car (drop (i + 1) cs)) lines

    pub listed_more : (bytes' : List ℕ) (len' : ℕ) → Wrote bytes len (car_lines c) bytes' len' → length bytes' ≡ length bytes → Listed saved cs bytes' len' (next + length (car_part c)) (i + 1)
    listed_more bytes' len' v l =
        record {
          going = going_on (replicate {A = ℕ} 9414 0) 0 (accepted_lines cs) bytes len (each_car (drop i cs)) w.going (car_lines c) (each_car (drop (i + 1) cs)) lines bytes' len' v l;
          stands = stands_next saved next (car_part c) (car_parts (drop (i + 1) cs)) parts;
        }

  pub listed_all : length cs ≤ i → ◌≡◌ {A = Listing} (record { bytes = bytes; len = len }) (listed (accepted_lines cs))
  unfolding each_car
  listed_all h =
      let e : drop i cs ≡ [] = drop_of_length-le cs h in
      wrote_listed (accepted_lines cs) bytes len
      (going_done (replicate {A = ℕ} 9414 0) 0 (accepted_lines cs) bytes len (each_car (drop i cs)) w.going (rw e))
