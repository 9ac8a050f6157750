-- The reader's way over a record, what stands where in it, and the lines written on the way.
use Rattle.std.proofs.Common.{◌≡◌, refl, ap, sym, ◌∙◌, List, [], ◌∷◌, ◌++◌, append_assoc, append-nil, ℕ, zero, suc, ◌+◌, ◌-◌, ◌≤◌, ◌<◌, sub-one, arith, length, take, drop, drop_of_length-le, length-append, length-drop, drop-drop, Ok, Err}
use Rattle.std.proofs.Math.Seq.{drop-append_seam, take-append_seam}
use Rattle.ascii.specs.Ascii.{ascii}
use Rattle.arrays.specs.Arrays.{put}
use Rattle.hexadecimal.specs.Hex.{hex_of}
use Rattle.reader.specs.declared.Field.{Field}
use Rattle.reader.specs.declared.FieldError.{FieldError}
use Rattle.reader.specs.Reader.{field_at}
use Rattle.reader.proofs.Laws.{field_whole}
use Rattle.phone_fields.specs.PhoneFields.{field, fields}
use Rattle.phone_fields.proofs.Writing.{put_put}
use Rattle.saved_record.specs.SavedRecord.{CarIds, car_part}
use Rattle.saved_record.proofs.Parts.{part_length}
use Rattle.car_lines.specs.Lines.{line, phone_lines}
use Rattle.car_lines.specs.declared.Places.{Places}
use Rattle.car_lines.specs.Walk.{Wrote, WroteFrom, Stands, ids_from, place_from}
use Rattle.car_lines.proofs.Laws.{put_nil}

-- ---- the ids, and the place after them

pub ids_none : (n : ℕ) (s : List ℕ) (at : ℕ) → n ≤ 0 → ids_from n s at ≡ []
unfolding ids_from
ids_none zero s at h = refl
ids_none (suc n) s at h = absurd (omega arith)

pub ids_err : (n : ℕ) (s : List ℕ) (at : ℕ) (r : FieldError) → Err r ≡ field_at s at → ids_from n s at ≡ []
unfolding ids_from
ids_err zero s at r e = refl
ids_err (suc n) s at r e = rw (← e)

-- the part of the record that is taken is the field's
pub ids_ok : (n : ℕ) (s : List ℕ) (at : ℕ) (f : Field) → 0 < n → Ok f ≡ field_at s at
    → ids_from n s at ≡ take (f.start + f.len - f.start) (drop f.start s) ∷ ids_from (n - 1) s f.next
unfolding ids_from
ids_ok zero s at f h e = absurd (omega arith)
ids_ok (suc n) s at f h e = let l : f.start + f.len - f.start ≡ f.len = omega arith in rw (← e, sub-one (suc n), l)

pub place_none : (n : ℕ) (s : List ℕ) (at : ℕ) → n ≤ 0 → place_from n s at ≡ at
unfolding place_from
place_none zero s at h = refl
place_none (suc n) s at h = absurd (omega arith)

pub place_err : (n : ℕ) (s : List ℕ) (at : ℕ) (r : FieldError) → Err r ≡ field_at s at → place_from n s at ≡ at
unfolding place_from
place_err zero s at r e = refl
place_err (suc n) s at r e = rw (← e)

pub place_ok : (n : ℕ) (s : List ℕ) (at : ℕ) (f : Field) → 0 < n → Ok f ≡ field_at s at → place_from n s at ≡ place_from (n - 1) s f.next
unfolding place_from
place_ok zero s at f h e = absurd (omega arith)
place_ok (suc n) s at f h e = rw (← e, sub-one (suc n))

-- over the fields of some phones the reader meets those phones, and comes to the place after them, whatever follows
pub walk_fields : (ps : List (List ℕ)) (s : List ℕ) (at : ℕ) (rest : List ℕ) → drop at s ≡ fields ps ++ rest → (ids_from (length ps) s at ≡ ps) × (place_from (length ps) s at ≡ at + length (fields ps))
unfolding field fields ids_from place_from
walk_fields [] s at rest e = (refl, omega arith)
walk_fields (p ∷ ps) s at rest e =
    let t = fields ps ++ rest in
    let first : drop at s ≡ length p ∷ p ++ t = e ∙ ap (λ (x : List ℕ). length p ∷ x) (append_assoc p (fields ps) rest) in
    let whole = field_whole s at (length p) (p ++ t) first (let l = length-append p t in omega arith) in
    let after : drop (at + 1) s ≡ p ++ t = sym (drop-drop 1 at s) ∙ ap (drop 1) first in
    let mine : take (length p) (drop (at + 1) s) ≡ p = ap (take (length p)) after ∙ take-append_seam p t in
    let next : drop (at + 1 + length p) s ≡ t = sym (drop-drop (length p) (at + 1) s) ∙ ap (drop (length p)) after ∙ drop-append_seam p t in
    let others = walk_fields ps s (at + 1 + length p) rest next in
    let place : at + 1 + length p + length (fields ps) ≡ at + suc (length (p ++ fields ps)) = let l = length-append p (fields ps) in omega arith in
    (rw (whole, mine, others.0), rw (whole, others.1) place)

-- ---- what stands where

-- what stands at the end, after h
pub stands_last : (h x : List ℕ) → Stands (h ++ x) (length h) x
stands_last h x =
    let l = length-append h x in
    rw (drop-append_seam h x, drop_of_length-le (h ++ x) {i = length h + length x} (omega arith), append-nil x)

module _ (s : List ℕ) (at : ℕ) (x y : List ℕ) (h : Stands s at (x ++ y)) where
  after_first : drop (at + length x) s ≡ y ++ drop (at + length (x ++ y)) s
  after_first = sym (drop-drop (length x) at s) ∙ ap (drop (length x)) (h ∙ append_assoc x y _) ∙ drop-append_seam x _

  -- of two that stand one after the other, the first
  pub stands_first : Stands s at x
  stands_first = h ∙ append_assoc x y _ ∙ ap (λ (t : List ℕ). x ++ t) (sym after_first)

  -- and the second
  pub stands_next : Stands s (at + length x) y
  stands_next = let l : at + length (x ++ y) ≡ at + length x + length y = rw length-append (omega arith) in rw l at after_first

-- what is not empty ends within
pub stands_within : (s : List ℕ) (at : ℕ) (x : List ℕ) → Stands s at x → 0 < length x → at + length x ≤ length s
stands_within s at x h some =
    let l : length s - at ≡ length x + (length s - (at + length x)) = sym (length-drop at s) ∙ ap length h ∙ length-append x (drop (at + length x) s) ∙ rw length-drop in
    omega arith

-- where the part of a car stands, the reader meets its phones after 33 bytes, and comes to the place after the part
pub car_walk : (s : List ℕ) (from : ℕ) (c : CarIds) → length c.car ≡ 32 → Stands s from (car_part c)
    → (ids_from (length c.phones) s (from + 33) ≡ c.phones) × (place_from (length c.phones) s (from + 33) ≡ from + length (car_part c))
unfolding car_part
car_walk s from c far h =
    let body = length c.phones ∷ fields c.phones in
    let n = stands_next s from c.car body (parted h) in
    let after : drop (from + 33) s ≡ fields c.phones ++ drop (from + length c.car + length body) s =
    (let e : from + 33 ≡ from + length c.car + 1 = omega arith in rw e (sym (drop-drop 1 (from + length c.car) s) ∙ ap (drop 1) n)) in
    let w = walk_fields c.phones s (from + 33) (drop (from + length c.car + length body) s) after in
    let l = part_length c in
    (w.0, w.1 ∙ (omega arith))
  where
    parted : Stands s from (car_part c) → Stands s from (c.car ++ (length c.phones ∷ fields c.phones))
    parted q = q

-- ---- the lines

-- what is left, written from `end` on, makes what is to be written from `at` on
pub record Going (dst₀ : List ℕ) (at : ℕ) (all dst : List ℕ) (end : ℕ) (rest : List ℕ) : Type 0 where
  pub bytes : put dst₀ at all ≡ put dst end rest
  pub place : at + length all ≡ end + length rest
  pub room : end + length rest ≤ length dst
  pub size : length dst ≡ length dst₀

pub going_first : (dst : List ℕ) (at : ℕ) (all : List ℕ) → at + length all ≤ length dst → Going dst at all dst at all
going_first dst at all h = record { bytes = refl; place = refl; room = h; size = refl }

module _ (dst₀ : List ℕ) (at : ℕ) (all dst : List ℕ) (end : ℕ) (rest : List ℕ) (g : Going dst₀ at all dst end rest) where
  module _ (x y : List ℕ) (e : rest ≡ x ++ y) where
    parted : length rest ≡ length x + length y
    parted = rw e (length-append x y)

    -- there is room for what comes next
    pub going_fits : end + length x ≤ length dst
    going_fits = let r = g.room in let f = parted in omega arith

    -- it is written
    pub going_on : (dst' : List ℕ) (end' : ℕ) → Wrote dst end x dst' end' → length dst' ≡ length dst → Going dst₀ at all dst' end' y
    going_on dst' end' w l =
        let r = g.room in
        let q = g.place in
        let f = parted in
        let z = w.place in
        record {
          bytes = g.bytes ∙ rw (e, w.bytes, z) (sym (put_put dst end x y (omega arith)));
          place = omega arith;
          room = omega arith;
          size = l ∙ g.size;
        }

  -- nothing is left
  pub going_done : rest ≡ [] → Wrote dst₀ at all dst end
  going_done e =
      let n = ap length e in
      let q = g.place in
      record { bytes = sym (g.bytes ∙ rw e (put_nil dst end)); place = omega arith }

first_line : (ids : List (List ℕ)) (p : List ℕ) (ps : List (List ℕ)) → ids ≡ p ∷ ps → phone_lines ids ≡ line (ascii "phone=") (hex_of p) ++ phone_lines ps
unfolding phone_lines
first_line ids p ps e = rw e

no_line : (ids : List (List ℕ)) → ids ≡ [] → phone_lines ids ≡ []
unfolding phone_lines
no_line ids e = rw e

-- the line of the id that lies in s from a place on
abbrev pub id_line : List ℕ → ℕ → ℕ → List ℕ
id_line s start len = line (ascii "phone=") (hex_of (take (start + len - start) (drop start s)))

-- where the loop over the phones stands: the lines of the ids that are left, and the place after them
pub record Walking (dst₀ : List ℕ) (at : ℕ) (s : List ℕ) (from count : ℕ) (dst : List ℕ) (p : Places) (left : ℕ) : Type 0 where
  pub going : Going dst₀ at (phone_lines (ids_from count s from)) dst p.end (phone_lines (ids_from left s p.next))
  pub place : place_from count s from ≡ place_from left s p.next

pub walking_first : (dst : List ℕ) (at : ℕ) (s : List ℕ) (from count : ℕ) → at + length (phone_lines (ids_from count s from)) ≤ length dst
    → Walking dst at s from count dst (record { end = at; next = from }) count
walking_first dst at s from count h = record { going = going_first dst at (phone_lines (ids_from count s from)) h; place = refl }

module _ (dst₀ : List ℕ) (at : ℕ) (s : List ℕ) (from count : ℕ) (dst : List ℕ) (p : Places) (left : ℕ) (w : Walking dst₀ at s from count dst p left) where
  module _ (f : Field) (some : 0 < left) (e : Ok f ≡ field_at s p.next) where
    first : phone_lines (ids_from left s p.next) ≡ id_line s f.start f.len ++ phone_lines (ids_from (left - 1) s f.next)
    first = first_line (ids_from left s p.next) (take (f.start + f.len - f.start) (drop f.start s)) (ids_from (left - 1) s f.next) (ids_ok left s p.next f some e)

    pub walking_fits : p.end + length (id_line s f.start f.len) ≤ length dst
    walking_fits =
        going_fits dst₀ at (phone_lines (ids_from count s from)) dst p.end (phone_lines (ids_from left s p.next)) w.going
        (id_line s f.start f.len) (phone_lines (ids_from (left - 1) s f.next)) first

    pub walking_on : (dst' : List ℕ) (end' : ℕ) → Wrote dst p.end (id_line s f.start f.len) dst' end' → length dst' ≡ length dst
        → Walking dst₀ at s from count dst' (record { end = end'; next = f.next }) (left - 1)
    walking_on dst' end' v l =
        record {
          going =
              going_on dst₀ at (phone_lines (ids_from count s from)) dst p.end (phone_lines (ids_from left s p.next)) w.going
              (id_line s f.start f.len) (phone_lines (ids_from (left - 1) s f.next)) first dst' end' v l;
          place = w.place ∙ place_ok left s p.next f some e;
        }

  pub walking_done : ids_from left s p.next ≡ [] → place_from left s p.next ≡ p.next → WroteFrom dst₀ at (phone_lines (ids_from count s from)) dst (place_from count s from) p
  walking_done e q =
      record { wrote = going_done dst₀ at _ dst p.end _ w.going (no_line (ids_from left s p.next) e); read = sym (w.place ∙ q) }
