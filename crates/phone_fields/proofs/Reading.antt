-- Steps of the loops that read: a phone from what remains, then the tail after it.
use mathlib.Core.Path.{◌≡◌, refl, ◌∙◌}
use mathlib.Core.Bool.{Bool, true, false, cond}
use mathlib.Core.List.{List, [], ◌∷◌, ◌++◌, append-nil}
use mathlib.Core.Logic.{◌⊎◌, inl, inr}
use Prim.Native.Nat.{ℕ, zero, suc, ◌+◌, ◌-◌, ◌*◌, ◌≤◌, ◌<◌}
use native.Mathlib.Nat.{sub-zero}
use native.Mathlib.Omega.{arith}
use borrow.Author.Tests.{lt-ltb, le-ltb, eq-eqb, ne_eqb}
use lib.Dec.{eqb, ltb}
use lib.ListN.{length, take, drop, length-append, length-drop}
use lib.Seq.{take_all}
use Rattle.std.specs.Prelude.{Result, Ok, Err}
use Rattle.arrays.proofs.Laws.{cond_same}
use Rattle.phones.specs.Ids.{joined, room_for}
use Rattle.phones.specs.Phones.{list_of}
use Rattle.phones.proofs.Laws.{joined_snoc}
use Rattle.phone_fields.specs.declared.FieldsError.{FieldsError}
use Rattle.phone_fields.specs.declared.FieldsError.TheVariants.{Malformed}
use Rattle.phone_fields.specs.declared.FieldsRead.{FieldsRead}
use Rattle.phone_fields.specs.PhoneFields.{Read, PhonesRead, not_whole, whole, before, read_fields, any_long, over_limits, fields_read}
use Rattle.phone_fields.specs.Steps.{only_checked}
use Rattle.phone_fields.proofs.Laws.{ReadFields, refused, are, fields_read_lem}

-- ---- a phone from what remains

pub first_is : (n : ℕ) (rest : List ℕ) → (n ≡ 0 → ⊥) → n ≤ length rest → (left : ℕ) → read_fields (suc left) (n ∷ rest) ≡ before (take n rest) (read_fields left (drop n rest))
unfolding read_fields
first_is n rest h k left = rw (ne_eqb n 0 h, le-ltb (length rest) n k)

-- no whole phone
pub first_empty : (s : List ℕ) → length s ≡ 0 → (left : ℕ) → read_fields (suc left) s ≡ not_whole
unfolding read_fields
first_empty [] h left = refl
first_empty (n ∷ rest) h left = absurd (omega arith)

pub first_not : (n : ℕ) (rest : List ℕ) → (n ≡ 0) ⊎ ((n ≡ 0 → ⊥) × (length rest < n)) → (left : ℕ) → read_fields (suc left) (n ∷ rest) ≡ not_whole
unfolding read_fields
first_not n rest (inl e) left = rw (eq-eqb n 0 e)
first_not n rest (inr h) left = rw (lt-ltb (length rest) n h.1) (cond_same (eqb n 0) not_whole)

-- ---- the phones from what remains

-- nothing is left to read
pub read_all : (left : ℕ) (s : List ℕ) → left ≤ 0 → read_fields left s ≡ whole [] s
unfolding read_fields
read_all zero s h = refl
read_all (suc left) s h = absurd (omega arith)

-- a part from a on to the end
pub tail_part : (s : List ℕ) (a : ℕ) → take (length s - a) (drop a s) ≡ drop a s
tail_part s a = take_all (length s - a) (drop a s) (rw length-drop (omega arith))

-- ---- read on where a limit is passed

checked_on : (total : ℕ) (p : List ℕ) (o : PhonesRead) → only_checked total (before p o) ≡ only_checked total o
unfolding before
checked_on total p not_whole = refl
checked_on total p (whole ps rest) = refl

pub checked_step : (total left : ℕ) (s p rest : List ℕ) → read_fields (suc left) s ≡ before p (read_fields left rest) → only_checked total (read_fields (suc left) s) ≡ only_checked total (read_fields left rest)
checked_step total left s p rest e = rw e (checked_on total p (read_fields left rest))

-- more than 32 phones are at best too large
pub too_many : (total count : ℕ) (s : List ℕ) → 32 < count → Err (only_checked total (read_fields count s)) ≡ fields_read total (read_fields count s)
unfolding fields_read over_limits
too_many total count s h = go (fields_read_lem count s)
  where
    go : ReadFields count s → Err (only_checked total (read_fields count s)) ≡ fields_read total (read_fields count s)
    go (refused e) = rw e
    go (are ps rest e w m f) = rw (e, lt-ltb 32 (length ps) (rw m h))

-- ---- the phones read so far

-- some in front of those that were read after them
unfoldable pub after : {A : Type 0} → List A → Read (List A) → Read (List A)
after [] o = o
after (x ∷ xs) o = before x (after xs o)

pub after_one : {A : Type 0} (xs : List A) (x : A) (o : Read (List A)) → after xs (before x o) ≡ after (xs ++ (x ∷ [])) o
unfolding after
after_one [] x o = refl
after_one (y ∷ xs) x o = rw (after_one xs x o)

pub after_none : {A : Type 0} (xs : List A) → after xs not_whole ≡ not_whole
unfolding after before
after_none [] = refl
after_none (x ∷ xs) = rw (after_none xs)

pub after_whole : {A : Type 0} (xs ys : List A) (rest : List ℕ) → after xs (whole ys rest) ≡ whole (xs ++ ys) rest
unfolding after before
after_whole [] ys rest = refl
after_whole (x ∷ xs) ys rest = rw (after_whole xs ys rest)

-- ---- the limit on an id

any_long_append : (ps qs : List (List ℕ)) → any_long (ps ++ qs) ≡ cond (any_long ps) true (any_long qs)
unfolding any_long
any_long_append [] qs = refl
any_long_append (p ∷ ps) qs = rw (any_long_append ps qs) (either (ltb 32 (length p)) (any_long ps) (any_long qs))
  where
    either : (a b c : Bool) → cond a true (cond b true c) ≡ cond (cond a true b) true c
    either true b c = refl
    either false b c = refl

-- one more id that is not over 32 bytes
none_long : (ps : List (List ℕ)) (p : List ℕ) → any_long ps ≡ false → length p ≤ 32 → any_long (ps ++ (p ∷ [])) ≡ false
unfolding any_long
none_long ps p e h = rw (any_long_append ps (p ∷ []), e, le-ltb 32 (length p) h)

-- after an id over 32 bytes the phones are at best too large
long_read : (total : ℕ) (ps : List (List ℕ)) (p : List ℕ) (o : PhonesRead) → 32 < length p → Err (only_checked total (before p o)) ≡ fields_read total (after ps (before p o))
unfolding fields_read over_limits any_long before
long_read total ps p not_whole h = rw (after_none ps)
long_read total ps p (whole qs rest) h =
    rw (after_whole ps (p ∷ qs) rest, any_long_append ps (p ∷ qs), lt-ltb 32 (length p) h, cond_same (any_long ps) true, cond_same (ltb 32 (length (ps ++ (p ∷ qs)))) true)

-- ---- the loop that keeps the phones: `done` are the first k, and this remains

pub record Kept (count : ℕ) (bytes rest : List ℕ) (k : ℕ) (done : List (List ℕ)) : Type 0 where
  pub within : length rest ≤ length bytes
  pub many : length done ≡ k
  pub short : any_long done ≡ false
  pub room : length (joined done) ≤ 32 * k
  pub reading : read_fields count bytes ≡ after done (read_fields (count - k) rest)

pub kept_start : (count : ℕ) (bytes : List ℕ) → Kept count bytes bytes 0 []
unfolding after any_long joined
kept_start count bytes = record { within = omega arith; many = refl; short = refl; room = omega arith; reading = rw sub-zero refl }

module _ (count : ℕ) (bytes rest : List ℕ) (k : ℕ) (done : List (List ℕ)) (x : Kept count bytes rest k done) where
  -- none of them is left
  pub kept_all : count ≤ 32 → count ≡ k → ◌≡◌ {A = Result FieldsRead FieldsError} (Ok (record { phones = list_of done; used = length bytes - length rest })) (fields_read (length bytes) (read_fields count bytes))
  unfolding fields_read over_limits
  kept_all h e =
      let m = x.many in
      rw (x.reading, read_all (count - k) rest (omega arith), after_whole done [] rest, append-nil done, le-ltb 32 (length done) (omega arith), x.short)

  module _ (more : k < count) where
    next : count - k ≡ suc (count - (k + 1))
    next = omega arith

    pub kept_none : ((left : ℕ) → read_fields (suc left) rest ≡ not_whole) → ◌≡◌ {A = Result FieldsRead FieldsError} (Err Malformed) (fields_read (length bytes) (read_fields count bytes))
    unfolding fields_read
    kept_none e = rw (x.reading, next, e (count - (k + 1)), after_none done)

    module _ (p tail : List ℕ) (e : (left : ℕ) → read_fields (suc left) rest ≡ before p (read_fields left tail)) where
      pub kept_long : 32 < length p → Err (only_checked (length bytes) (read_fields (count - k) rest)) ≡ fields_read (length bytes) (read_fields count bytes)
      kept_long h = rw (x.reading, next, e (count - (k + 1))) (long_read (length bytes) done p (read_fields (count - (k + 1)) tail) h)

      pub kept_step : length p ≤ 32 → length tail ≤ length rest → Kept count bytes tail (k + 1) (done ++ (p ∷ []))
      kept_step h w =
          let m = x.many in
          let r = x.room in
          let b = x.within in
          record {
            within = omega arith;
            many = rw length-append (omega arith);
            short = none_long done p x.short h;
            room = rw (joined_snoc, length-append) (omega arith);
            reading = x.reading ∙ rw (next, e (count - (k + 1))) (after_one done p (read_fields (count - (k + 1)) tail));
          }

  -- there is a place and the bytes for a phone more
  pub kept_room : (p : List ℕ) → k < 32 → length p ≤ 32 → room_for p done ≡ true
  unfolding room_for
  kept_room p h l =
      let m = x.many in
      let r = x.room in
      rw (lt-ltb (length done) 32 (omega arith), le-ltb 1024 (length (joined done) + length p) (omega arith))
