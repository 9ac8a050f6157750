-- The record written and read: what is written is read back, what is read is what was written, and what is refused.
use mathlib.Core.Path.{◌≡◌, refl, ap, sym, ◌∙◌}
use mathlib.Core.Bool.{Bool, true, false, cond, true≢false}
use mathlib.Core.List.{List, [], ◌∷◌, append-nil}
use Prim.Native.Nat.{ℕ, zero, suc, ◌*◌, ◌≤◌, ◌<◌}
use native.Mathlib.Omega.{arith}
use borrow.Author.Tests.{eqb-true, eqb-false, lt-ltb, le-ltb, ltb-false, ne_eqb}
use lib.Dec.{eqb, ltb}
use lib.ListN.{length, get_or, length-append}
use Rattle.arrays.proofs.Laws.{cond_same}
use Rattle.phones.specs.Ids.{some_of}
use Rattle.phones.proofs.Search.{none_cons}
use Rattle.phone_fields.specs.PhoneFields.{Read, not_whole, whole, any_long, over_limits}
use Rattle.phone_fields.proofs.Laws.{any_empty, fields_length, none_long_short}
use Rattle.saved_record.specs.SavedRecord.{CarIds, car_part, car_parts, encoded, read_cars, read_two, read_version, nothing_after, twice, over, malformed, car_twice, too_large, ok, Reading, judged, decoded}
use Rattle.saved_record.proofs.Parts.{Digests, lacking, unreadable, part_length, read_parts, ReadCars, cars_read}
use Rattle.saved_record.proofs.Parts as Parts

-- the bytes of a record whose cars these are, as version 1, for one car alone, and as version 2
pub data Versions (r : List ℕ) (cs : List CarIds) : Type 0 where
  one : length cs ≡ 1 → r ≡ 1 ∷ car_parts cs → Versions r cs
  two : 0 < length cs → length cs ≤ 4 → r ≡ 2 ∷ length cs ∷ car_parts cs → Versions r cs

-- r is a record of these cars, each with a digest of 32 bytes and some phones, none of them empty
pub record WellFormed (r : List ℕ) (cs : List CarIds) : Type 0 where
  pub written : Versions r cs
  pub digests : Digests cs
  pub readable : some_of unreadable cs ≡ false

-- what is said of a well formed record: 28 before 23
abbrev pub judgement : List CarIds → Reading
judgement cs = cond (twice cs) car_twice (cond (over cs) too_large (ok cs))

-- ---- a well formed record is read whole

parts_whole : (cs : List CarIds) → Digests cs → some_of unreadable cs ≡ false → read_cars (length cs) (car_parts cs) ≡ whole cs []
parts_whole cs d u = rw (← append-nil (car_parts cs), read_parts cs [] d, u)

read_as : (r : List ℕ) (cs : List CarIds) → Versions r cs → Digests cs → some_of unreadable cs ≡ false → read_version r ≡ whole cs []
unfolding read_version read_two
read_as r cs (one m w) d u = rw (w, ← m, parts_whole cs d u)
read_as r cs (two m n w) d u =
    rw (w, ne_eqb (length cs) 0 (λ z. omega arith), le-ltb 4 (length cs) n, parts_whole cs d u)

-- ---- a record is malformed, or well formed

data ReadRecord (r : List ℕ) : Type 0 where
  refused : decoded r ≡ malformed → ReadRecord r
  holds : (cs : List CarIds) → WellFormed r cs → ReadRecord r

read_one : (rest : List ℕ) → ReadCars 1 rest → ReadRecord (1 ∷ rest)
unfolding decoded judged nothing_after read_version
read_one rest (Parts.refused e) = refused (rw e)
read_one rest (Parts.are cs (x ∷ tail) e w m d u) = refused (rw e)
read_one rest (Parts.are cs [] e w m d u) =
    holds cs (record { written = one m (ap (λ (s : List ℕ). 1 ∷ s) (sym w ∙ append-nil (car_parts cs))); digests = d; readable = u })

read_two_lem : (n : ℕ) (rest : List ℕ) (a b : Bool) → eqb n 0 ≡ a → ltb 4 n ≡ b → ReadCars n rest → ReadRecord (2 ∷ n ∷ rest)
unfolding decoded judged nothing_after read_version read_two
read_two_lem n rest true b ea eb x = refused (rw ea)
read_two_lem n rest false true ea eb x = refused (rw (ea, eb))
read_two_lem n rest false false ea eb (Parts.refused e) = refused (rw (ea, eb, e))
read_two_lem n rest false false ea eb (Parts.are cs (x ∷ tail) e w m d u) = refused (rw (ea, eb, e))
read_two_lem n rest false false ea eb (Parts.are cs [] e w m d u) =
    let z : n ≡ 0 → ⊥ = eqb-false n 0 ea in
    let f = ltb-false 4 n eb in
    let s : rest ≡ car_parts cs = sym w ∙ append-nil (car_parts cs) in
    holds cs (record { written = two (pos (length cs) (λ y. z (sym m ∙ y))) (omega arith) (rw (s, m)); digests = d; readable = u })
  where
    pos : (k : ℕ) → (k ≡ 0 → ⊥) → 0 < k
    pos zero h = absurd (h refl)
    pos (suc k) h = omega arith

read_version_lem : (v : ℕ) (rest : List ℕ) (a b : Bool) → eqb v 1 ≡ a → eqb v 2 ≡ b → ReadRecord (v ∷ rest)
unfolding decoded judged nothing_after read_version read_two
read_version_lem v rest false false ea eb = refused (rw (ea, eb))
read_version_lem v rest true b ea eb = rw (eqb-true v 1 ea) (read_one rest (cars_read 1 rest))
read_version_lem v [] false true ea eb = refused (rw (ea, eb))
read_version_lem v (n ∷ rest) false true ea eb = rw (eqb-true v 2 eb) (read_two_lem n rest (eqb n 0) (ltb 4 n) refl refl (cars_read n rest))

read_record : (r : List ℕ) → ReadRecord r
unfolding decoded judged nothing_after read_version
read_record [] = refused refl
read_record (v ∷ rest) = read_version_lem v rest (eqb v 1) (eqb v 2) refl refl

-- ---- the theorems

-- 22, then 28, then 23: a well formed record is judged by its digests and then by the limits, and any other is malformed.
pub judged_by : (r : List ℕ) (cs : List CarIds) → WellFormed r cs → decoded r ≡ judgement cs
unfolding decoded judged nothing_after
judged_by r cs w = rw (read_as r cs w.written w.digests w.readable)

pub not_well_formed : (r : List ℕ) → ((cs : List CarIds) → WellFormed r cs → ⊥) → decoded r ≡ malformed
not_well_formed r h = go (read_record r)
  where
    go : ReadRecord r → decoded r ≡ malformed
    go (refused e) = e
    go (holds cs w) = absurd (h cs w)

judge : (r : List ℕ) (cs ds : List CarIds) (a b : Bool) → twice cs ≡ a → over cs ≡ b → WellFormed r cs → cond a car_twice (cond b too_large (ok cs)) ≡ ok ds
    → WellFormed r ds × (twice ds ≡ false) × (over ds ≡ false)
judge r cs ds true b ea eb w q = let z : ◌≡◌ {A = ℕ} 0 1 = cc in absurd (omega arith)
judge r cs ds false true ea eb w q = let z : ◌≡◌ {A = ℕ} 0 1 = cc in absurd (omega arith)
judge r cs ds false false ea eb w q = let e : ds ≡ cs = cc in rw e (w, ea, eb)

-- A record that is accepted is well formed, with digests that all differ, and within the limits.
pub accepted_well_formed : (r : List ℕ) (cs : List CarIds) → decoded r ≡ ok cs → WellFormed r cs × (twice cs ≡ false) × (over cs ≡ false)
accepted_well_formed r cs e = go (read_record r)
  where
    go : ReadRecord r → WellFormed r cs × (twice cs ≡ false) × (over cs ≡ false)
    go (refused n) = let z : ◌≡◌ {A = ℕ} 0 1 = cc in absurd (omega arith)
    go (holds ds w) = judge r ds cs (twice ds) (over ds) refl refl w (sym (judged_by r ds w) ∙ e)

-- A digest twice, or too large, is said only of a record that is well formed as a whole, and too large only where all digests differ.
pub car_twice_well_formed : (r : List ℕ) → decoded r ≡ car_twice → (cs : List CarIds) × WellFormed r cs × (twice cs ≡ true)
car_twice_well_formed r e = go (read_record r)
  where
    by : (cs : List CarIds) (a b : Bool) → twice cs ≡ a → WellFormed r cs → cond a car_twice (cond b too_large (ok cs)) ≡ car_twice → (cs : List CarIds) × WellFormed r cs × (twice cs ≡ true)
    by cs true b ea w q = (cs, w, ea)
    by cs false true ea w q = let z : ◌≡◌ {A = ℕ} 0 1 = cc in absurd (omega arith)
    by cs false false ea w q = let z : ◌≡◌ {A = ℕ} 0 1 = cc in absurd (omega arith)

    go : ReadRecord r → (cs : List CarIds) × WellFormed r cs × (twice cs ≡ true)
    go (refused n) = let z : ◌≡◌ {A = ℕ} 0 1 = cc in absurd (omega arith)
    go (holds cs w) = by cs (twice cs) (over cs) refl w (sym (judged_by r cs w) ∙ e)

pub too_large_well_formed : (r : List ℕ) → decoded r ≡ too_large → (cs : List CarIds) × WellFormed r cs × (twice cs ≡ false) × (over cs ≡ true)
too_large_well_formed r e = go (read_record r)
  where
    by : (cs : List CarIds) (a b : Bool) → twice cs ≡ a → over cs ≡ b → WellFormed r cs → cond a car_twice (cond b too_large (ok cs)) ≡ too_large
        → (cs : List CarIds) × WellFormed r cs × (twice cs ≡ false) × (over cs ≡ true)
    by cs true b ea eb w q = let z : ◌≡◌ {A = ℕ} 0 1 = cc in absurd (omega arith)
    by cs false true ea eb w q = (cs, w, ea, eb)
    by cs false false ea eb w q = let z : ◌≡◌ {A = ℕ} 0 1 = cc in absurd (omega arith)

    go : ReadRecord r → (cs : List CarIds) × WellFormed r cs × (twice cs ≡ false) × (over cs ≡ true)
    go (refused n) = let z : ◌≡◌ {A = ℕ} 0 1 = cc in absurd (omega arith)
    go (holds cs w) = by cs (twice cs) (over cs) refl refl w (sym (judged_by r cs w) ∙ e)

encoded_some : (cs : List CarIds) → 0 < length cs → encoded cs ≡ 2 ∷ length cs ∷ car_parts cs
unfolding encoded
encoded_some [] h = absurd (omega arith)
encoded_some (c ∷ cs) h = refl

-- A record that is written for one to four cars, with digests of 32 bytes that all differ, each with phones whose ids are not empty,
-- within the limits, is read back as those cars.
pub reads_back : (cs : List CarIds) → 0 < length cs → length cs ≤ 4 → Digests cs → twice cs ≡ false → some_of unreadable cs ≡ false → over cs ≡ false → decoded (encoded cs) ≡ ok cs
reads_back cs m n d t u o = judged_by (encoded cs) cs (record { written = two m n (encoded_some cs m); digests = d; readable = u }) ∙ rw (t, o)

-- Every record of version 2 that is accepted is written again as the same bytes.
pub written_back : (r : List ℕ) (cs : List CarIds) → decoded r ≡ ok cs → get_or r 0 0 ≡ 2 → encoded cs ≡ r
written_back r cs e v = go (accepted_well_formed r cs e).0.written
  where
    go : Versions r cs → encoded cs ≡ r
    go (one m w) = let x : ◌≡◌ {A = ℕ} 1 2 = ap (λ (s : List ℕ). get_or s 0 0) (sym w) ∙ v in absurd (omega arith)
    go (two m n w) = encoded_some cs m ∙ sym w

-- A record of version 1 that is accepted has one car, and is written again as version 2, with the same bytes after the head.
pub version_one_lem : (r : List ℕ) (cs : List CarIds) → decoded r ≡ ok cs → get_or r 0 0 ≡ 1
    → (length cs ≡ 1) × (r ≡ 1 ∷ car_parts cs) × (encoded cs ≡ 2 ∷ 1 ∷ car_parts cs)
version_one_lem r cs e v = go (accepted_well_formed r cs e).0.written
  where
    go : Versions r cs → (length cs ≡ 1) × (r ≡ 1 ∷ car_parts cs) × (encoded cs ≡ 2 ∷ 1 ∷ car_parts cs)
    go (one m w) = (m, w, encoded_some cs (omega arith) ∙ rw m)
    go (two m n w) = let x : ◌≡◌ {A = ℕ} 2 1 = ap (λ (s : List ℕ). get_or s 0 0) (sym w) ∙ v in absurd (omega arith)

-- An empty store writes zero bytes, which are refused.
pub empty_store : encoded [] ≡ []
unfolding encoded
empty_store = refl

pub empty_store_refused : decoded [] ≡ malformed
unfolding decoded judged nothing_after read_version
empty_store_refused = refl

-- A record is refused as a whole if one of its cars has no phone, or an id that is empty,
pub unreadable_refused : (cs : List CarIds) → Digests cs → some_of unreadable cs ≡ true → decoded (encoded cs) ≡ malformed
unfolding some_of encoded decoded judged nothing_after read_version read_two
unreadable_refused [] d e = absurd (true≢false (sym e))
unreadable_refused (c ∷ cs) d e =
    let n : read_cars (length (c ∷ cs)) (car_parts (c ∷ cs)) ≡ not_whole = rw (← append-nil (car_parts (c ∷ cs)), read_parts (c ∷ cs) [] d, e) in
    rw (n, cond_same {A = Read (List CarIds)} (ltb 4 (length (c ∷ cs))) not_whole, cond_same {A = Read (List CarIds)} (eqb (length (c ∷ cs)) 0) not_whole)

empty_lacks : (ps : List (List ℕ)) → any_empty ps ≡ true → lacking ps ≡ true
unfolding any_empty lacking
empty_lacks [] e = absurd (true≢false (sym e))
empty_lacks (p ∷ ps) e = e

some_empty : (cs : List CarIds) → some_of (λ (c : CarIds). any_empty c.phones) cs ≡ true → some_of unreadable cs ≡ true
unfolding some_of unreadable
some_empty [] e = e
some_empty (c ∷ cs) e = go (any_empty c.phones) refl e (λ q. some_empty cs q)
  where
    go : (a : Bool) → any_empty c.phones ≡ a → cond a true (some_of (λ (x : CarIds). any_empty x.phones) cs) ≡ true
        → (some_of (λ (x : CarIds). any_empty x.phones) cs ≡ true → some_of unreadable cs ≡ true) → cond (lacking c.phones) true (some_of unreadable cs) ≡ true
    go true ea q h = rw (empty_lacks c.phones ea)
    go false ea q h = rw (h q) (cond_same (lacking c.phones) true)

pub empty_id_refused : (cs : List CarIds) → Digests cs → some_of (λ (c : CarIds). any_empty c.phones) cs ≡ true → decoded (encoded cs) ≡ malformed
empty_id_refused cs d e = unreadable_refused cs d (some_empty cs e)

-- or if it has more than four cars.
pub many_cars_refused : (cs : List CarIds) → 4 < length cs → decoded (encoded cs) ≡ malformed
unfolding decoded judged nothing_after read_version read_two
many_cars_refused cs h = rw (encoded_some cs (omega arith), lt-ltb 4 (length cs) h, cond_same {A = Read (List CarIds)} (eqb (length cs) 0) not_whole)

-- ---- how long a record is

part_short : (c : CarIds) → length c.car ≡ 32 → over_limits c.phones ≡ false → length (car_part c) ≤ 1089
unfolding over_limits
part_short c d e = go (ltb 32 (length c.phones)) refl e
  where
    go : (b : Bool) → ltb 32 (length c.phones) ≡ b → cond b true (any_long c.phones) ≡ false → length (car_part c) ≤ 1089
    go true l q = absurd (true≢false q)
    go false l q =
        let i = fields_length c.phones (none_long_short c.phones q) in
        let s = ltb-false 32 (length c.phones) l in
        let p = part_length c in
        omega arith

parts_short : (cs : List CarIds) → Digests cs → over cs ≡ false → length (car_parts cs) ≤ 1089 * length cs
unfolding car_parts over
parts_short [] d e = omega arith
parts_short (c ∷ cs) d e =
    let n = none_cons (λ (x : CarIds). over_limits x.phones) c cs e in
    let a = length-append (car_part c) (car_parts cs) in
    let p = part_short c d.0 n.0 in
    let i = parts_short cs d.1 n.1 in
    omega arith

-- A record of at most four cars, each of at most 32 ids of at most 32 bytes, has at most 4,358 bytes.
pub at_most_4358 : (cs : List CarIds) → length cs ≤ 4 → Digests cs → over cs ≡ false → length (encoded cs) ≤ 4358
unfolding encoded
at_most_4358 [] n d e = omega arith
at_most_4358 (c ∷ cs) n d e = let l = parts_short (c ∷ cs) d e in omega arith
