-- Phones written and read: what is written is read back, and what is read is what was written.
use mathlib.Core.Path.{◌≡◌, refl, ap}
use mathlib.Core.Bool.{Bool, true, false, cond, true≢false}
use mathlib.Core.List.{List, [], ◌∷◌, ◌++◌, append_assoc}
use Prim.Native.Nat.{ℕ, zero, suc, ◌+◌, ◌*◌, ◌≤◌}
use native.Mathlib.Omega.{arith}
use borrow.Author.Tests.{le-ltb, ltb-false}
use lib.Dec.{eqb, ltb}
use lib.ListN.{length, take, drop, length-append, length-take, take-append-drop}
use lib.Seq.{length-take-le, drop-append_seam, take-append_seam}
use Rattle.phones.specs.declared.PhoneList.{PhoneList}
use Rattle.phones.specs.Ids.{joined}
use Rattle.phones.specs.Phones.{ids_in, phones_of}
use Rattle.phones.proofs.Laws.{ids_length}
use Rattle.phones.proofs.Walk.{ids_end}
use Rattle.phones.proofs.Range.{Short}
use Rattle.phone_fields.specs.PhoneFields.{field, fields, not_whole, whole, before, read_fields, any_long}

-- some id has no bytes
unfoldable pub any_empty : List (List ℕ) → Bool
any_empty [] = false
any_empty (p ∷ ps) = cond (eqb (length p) 0) true (any_empty ps)

read_first : (a b : Bool) (p : List ℕ) (ps : List (List ℕ)) (rest : List ℕ)
    → cond a not_whole (before p (cond b not_whole (whole ps rest))) ≡ cond (cond a true b) not_whole (whole (p ∷ ps) rest)
unfolding before
read_first true b p ps rest = refl
read_first false true p ps rest = refl
read_first false false p ps rest = refl

-- the fields of some phones are read as those phones, unless one is empty, whatever follows them
pub read_fields_lem : (ps : List (List ℕ)) (rest : List ℕ) → read_fields (length ps) (fields ps ++ rest) ≡ cond (any_empty ps) not_whole (whole ps rest)
unfolding field fields read_fields any_empty
read_fields_lem [] rest = refl
read_fields_lem (p ∷ ps) rest =
    let s : (p ++ fields ps) ++ rest ≡ p ++ (fields ps ++ rest) = append_assoc p (fields ps) rest in
    let e : ltb (length (p ++ (fields ps ++ rest))) (length p) ≡ false = let l = length-append p (fields ps ++ rest) in le-ltb (length (p ++ (fields ps ++ rest))) (length p) (omega arith) in
    rw (s, e, take-append_seam p (fields ps ++ rest), drop-append_seam p (fields ps ++ rest), read_fields_lem ps rest)
    (read_first (eqb (length p) 0) (any_empty ps) p ps rest)

-- what some phones are read from is their fields and what remains
pub data ReadFields (left : ℕ) (s : List ℕ) : Type 0 where
  refused : read_fields left s ≡ not_whole → ReadFields left s
  are : (ps : List (List ℕ)) (rest : List ℕ) → read_fields left s ≡ whole ps rest → fields ps ++ rest ≡ s → length ps ≡ left → any_empty ps ≡ false → ReadFields left s

read_on_lem : (left n : ℕ) (rest : List ℕ) (a b : Bool) → eqb n 0 ≡ a → ltb (length rest) n ≡ b → ReadFields left (drop n rest) → ReadFields (suc left) (n ∷ rest)
unfolding field fields read_fields before any_empty
read_on_lem left n rest true b ea eb h = refused (rw ea)
read_on_lem left n rest false true ea eb h = refused (rw (ea, eb))
read_on_lem left n rest false false ea eb (refused e) = refused (rw (ea, eb, e))
read_on_lem left n rest false false ea eb (are ps tail e w m f) =
    let l : length (take n rest) ≡ n = length-take-le n rest (ltb-false _ _ eb) in
    are (take n rest ∷ ps) tail (rw (ea, eb, e)) (rw (l, append_assoc (take n rest) (fields ps) tail, w, take-append-drop n rest)) (ap suc m) (rw (l, ea, f))

pub fields_read_lem : (left : ℕ) (s : List ℕ) → ReadFields left s
unfolding field fields read_fields any_empty
fields_read_lem zero s = are [] s refl refl refl refl
fields_read_lem (suc left) [] = refused refl
fields_read_lem (suc left) (n ∷ rest) = read_on_lem left n rest (eqb n 0) (ltb (length rest) n) refl refl (fields_read_lem left (drop n rest))

-- ---- how long the fields are

pub fields_length : (ps : List (List ℕ)) → Short ps → length (fields ps) ≤ 33 * length ps
unfolding field fields
fields_length [] h = omega arith
fields_length (p ∷ ps) h =
    let i = fields_length ps (λ k. h (suc k)) in
    let s : length p ≤ 32 = h zero in
    let a = length-append p (fields ps) in
    omega arith

fields_joined : (ps : List (List ℕ)) → length (fields ps) ≡ length ps + length (joined ps)
unfolding field fields joined
fields_joined [] = refl
fields_joined (p ∷ ps) =
    let i = fields_joined ps in
    let a = length-append p (fields ps) in
    let b = length-append p (joined ps) in
    omega arith

-- of whatever list; `search` finds the facts that this takes
pub owned_fields : (l : PhoneList) → length l.lens ≡ 32 → length l.bytes ≡ 1024 → length (fields (phones_of l)) ≤ 1056
unfolding phones_of
owned_fields l h far =
    let ns = take l.count l.lens in
    let e = fields_joined (ids_in ns l.bytes) in
    let n : length (ids_in ns l.bytes) ≤ 32 = rw (ids_length, length-take, h) (omega arith) in
    let b = ids_end ns l.bytes in
    omega arith

pub none_long_short : (ps : List (List ℕ)) → any_long ps ≡ false → Short ps
unfolding any_long
none_long_short [] e = λ i. omega arith
none_long_short (p ∷ ps) e = go (ltb 32 (length p)) refl e (λ q. none_long_short ps q)
  where
    go : (b : Bool) → ltb 32 (length p) ≡ b → cond b true (any_long ps) ≡ false → (any_long ps ≡ false → Short ps) → Short (p ∷ ps)
    go true l q h i = absurd (true≢false q)
    go false l q h zero = ltb-false 32 (length p) l
    go false l q h (suc i) = h q i
