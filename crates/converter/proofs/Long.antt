-- No record of bytes that is well formed is longer than 261,254 bytes, so the first bytes of a longer one decide.
use mathlib.Core.Path.{◌≡◌, refl, ap}
use mathlib.Core.Bool.{Bool, true, false}
use mathlib.Core.List.{List, [], ◌∷◌, ◌++◌}
use Prim.Native.Nat.{ℕ, zero, suc, ◌*◌, ◌≤◌, ◌<◌}
use native.Mathlib.Omega.{arith}
use borrow.Author.Tests.{ltb-true, ltb-false}
use lib.Dec.{ltb}
use lib.ListN.{length, take, length-append}
use lib.Seq.{length-take-le, take_all}
use Rattle.phone_fields.specs.PhoneFields.{field, fields}
use Rattle.saved_record.specs.SavedRecord.{CarIds, car_part, car_parts, malformed, decoded}
use Rattle.saved_record.proofs.Parts.{Digests, part_length}
use Rattle.saved_record.proofs.RoundTrip.{Versions, one, two, not_well_formed}
use Rattle.converter.specs.Convert.{converted}
use Rattle.converter.specs.Theorems.{Bytes, FirstBytesDecide}

-- ---- bytes

bytes_parts : (xs ys : List ℕ) → Bytes (xs ++ ys) → Bytes xs × Bytes ys
bytes_parts [] ys b = (tt, b)
bytes_parts (x ∷ xs) ys b = let t = bytes_parts xs ys b.1 in ((b.0, t.0), t.1)

bytes_take : (n : ℕ) (xs : List ℕ) → Bytes xs → Bytes (take n xs)
bytes_take zero xs b = tt
bytes_take (suc n) [] b = tt
bytes_take (suc n) (x ∷ xs) b = (b.0, bytes_take n xs b.1)

-- ---- how long a record can be

fields_bound : (ps : List (List ℕ)) → Bytes (fields ps) → length (fields ps) ≤ 256 * length ps
unfolding field fields
fields_bound [] b = omega arith
fields_bound (p ∷ ps) b =
    let byte = b.0 in
    let i = fields_bound ps (bytes_parts p (fields ps) b.1).1 in
    let a = length-append p (fields ps) in
    omega arith

part_bound : (c : CarIds) → length c.car ≡ 32 → Bytes (car_part c) → length (car_part c) ≤ 65313
unfolding car_part
part_bound c digest b =
    let rest = (bytes_parts c.car (length c.phones ∷ fields c.phones) b).1 in
    let byte = rest.0 in
    let f = fields_bound c.phones rest.1 in
    omega (arith, part_length c)

parts_bound : (cs : List CarIds) → Digests cs → Bytes (car_parts cs) → length (car_parts cs) ≤ 65313 * length cs
unfolding car_parts
parts_bound [] d b = omega arith
parts_bound (c ∷ cs) d b =
    let t = bytes_parts (car_part c) (car_parts cs) b in
    let p = part_bound c d.0 t.0 in
    let i = parts_bound cs d.1 t.1 in
    let a = length-append (car_part c) (car_parts cs) in
    omega arith

record_bound : (r : List ℕ) (cs : List CarIds) → Versions r cs → Digests cs → Bytes r → length r ≤ 261254
record_bound r cs (one m w) d b =
    let l : length r ≡ length (1 ∷ car_parts cs) = ap length w in
    let p = parts_bound cs d (rw w at b).1 in
    omega arith
record_bound r cs (two m n w) d b =
    let l : length r ≡ length (2 ∷ length cs ∷ car_parts cs) = ap length w in
    let p = parts_bound cs d (rw w at b).1.1 in
    omega arith

long_malformed : (r : List ℕ) → Bytes r → 261254 < length r → decoded r ≡ malformed
long_malformed r b h = not_well_formed r (λ cs w. let l = record_bound r cs w.written w.digests b in omega arith)

pub first_bytes_decide : FirstBytesDecide
unfolding converted
first_bytes_decide r target out b = go (ltb 261254 (length r)) refl
  where
    go : (t : Bool) → ltb 261254 (length r) ≡ t → converted (take 261255 r) target out ≡ converted r target out
    go true e =
        let h = ltb-true 261254 (length r) e in
        let l = length-take-le 261255 r (omega arith) in
        rw (long_malformed (take 261255 r) (bytes_take 261255 r b) (omega arith), long_malformed r b h)
    go false e = let h = ltb-false 261254 (length r) e in rw (take_all 261255 r (omega arith))
