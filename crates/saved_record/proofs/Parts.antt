-- The parts of cars written and read: what is written is read back, and what is read is what was written.
use mathlib.Core.Path.{◌≡◌, refl, ap, sym, ◌∙◌}
use mathlib.Core.Bool.{Bool, true, false, cond}
use mathlib.Core.List.{List, [], ◌∷◌, ◌++◌, append_assoc}
use Prim.Native.Nat.{ℕ, zero, suc, ◌+◌, ◌-◌}
use native.Mathlib.Omega.{arith}
use lib.ListN.{length, take, drop, length-append, length-drop, take-append-drop}
use lib.Seq.{take_at, drop_at, length-take-le}
use Rattle.phones.specs.Ids.{some_of}
use Rattle.phone_fields.specs.PhoneFields.{fields, Read, not_whole, whole, before}
use Rattle.phone_fields.proofs.Laws.{any_empty, read_fields_lem, fields_read_lem}
use Rattle.phone_fields.proofs.Laws as Laws
use Rattle.saved_record.specs.SavedRecord.{CarIds, car_part, car_parts, of_car, read_counted, read_after, read_car, read_on, read_cars}

-- each digest has 32 bytes
abbrev pub Digests : List CarIds → Type 0
Digests [] = Unit {0}
Digests (c ∷ cs) = (length c.car ≡ 32) × Digests cs

-- no phone, or an id that has no bytes
unfoldable pub lacking : List (List ℕ) → Bool
lacking [] = true
lacking (p ∷ ps) = any_empty (p ∷ ps)

unfoldable pub unreadable : CarIds → Bool
unreadable c = lacking c.phones

-- ---- how long a part is

pub part_length : (c : CarIds) → length (car_part c) ≡ length c.car + 1 + length (fields c.phones)
unfolding car_part
part_length c = length-append c.car (length c.phones ∷ fields c.phones) ∙ (let e : length c.car + suc (length (fields c.phones)) ≡ length c.car + 1 + length (fields c.phones) = omega arith in e)

-- ---- what is written is read back

of_read : (car : List ℕ) (ps : List (List ℕ)) (rest : List ℕ) (b : Bool) → of_car car (cond b not_whole (whole ps rest)) ≡ cond b not_whole (whole (record { car = car; phones = ps }) rest)
unfolding of_car
of_read car ps rest true = refl
of_read car ps rest false = refl

read_counted_lem : (car : List ℕ) (ps : List (List ℕ)) (rest : List ℕ)
    → read_counted car (length ps) (fields ps ++ rest) ≡ cond (unreadable (record { car = car; phones = ps })) not_whole (whole (record { car = car; phones = ps }) rest)
unfolding read_counted lacking unreadable
read_counted_lem car [] rest = refl
read_counted_lem car (p ∷ ps) rest = rw (read_fields_lem (p ∷ ps) rest) (of_read car (p ∷ ps) rest (any_empty (p ∷ ps)))

read_part : (c : CarIds) (rest : List ℕ) → length c.car ≡ 32 → read_car (car_part c ++ rest) ≡ cond (unreadable c) not_whole (whole c rest)
unfolding car_part read_car read_after
read_part c rest h =
    let body = length c.phones ∷ fields c.phones ++ rest in
    let e : (c.car ++ (length c.phones ∷ fields c.phones)) ++ rest ≡ c.car ++ body = append_assoc c.car (length c.phones ∷ fields c.phones) rest in
    rw (e, take_at c.car body 32 h, drop_at c.car body 32 h) (read_counted_lem c.car c.phones rest)

then_read : {A : Type 0} (a b : Bool) (x : A) (s : List ℕ) (xs : List A) (rest : List ℕ) (others : List ℕ → Read (List A)) → others s ≡ cond b not_whole (whole xs rest)
    → read_on (cond a not_whole (whole x s)) others ≡ cond (cond a true b) not_whole (whole (x ∷ xs) rest)
unfolding read_on before
then_read true b x s xs rest others e = refl
then_read false true x s xs rest others e = rw e
then_read false false x s xs rest others e = rw e

-- the parts of some cars are read as those cars, unless one cannot be read, whatever follows them
pub read_parts : (cs : List CarIds) (rest : List ℕ) → Digests cs → read_cars (length cs) (car_parts cs ++ rest) ≡ cond (some_of unreadable cs) not_whole (whole cs rest)
unfolding car_parts read_cars some_of
read_parts [] rest h = refl
read_parts (c ∷ cs) rest h =
    rw (append_assoc (car_part c) (car_parts cs) rest, read_part c (car_parts cs ++ rest) h.0)
    (then_read (unreadable c) (some_of unreadable cs) c (car_parts cs ++ rest) cs rest (read_cars (length cs)) (read_parts cs rest h.1))

-- ---- what is read is what was written

-- what a car is read from is its part and what remains
pub data ReadCar (s : List ℕ) : Type 0 where
  refused : read_car s ≡ not_whole → ReadCar s
  is : (c : CarIds) (rest : List ℕ) → read_car s ≡ whole c rest → car_part c ++ rest ≡ s → length c.car ≡ 32 → unreadable c ≡ false → ReadCar s

car_body : (s : List ℕ) (n : ℕ) (tail : List ℕ) → drop 32 s ≡ suc n ∷ tail → Laws.ReadFields (suc n) tail → ReadCar s
unfolding car_part read_car read_after read_counted of_car lacking unreadable
car_body s n tail es (Laws.refused e) = refused (rw (es, e))
car_body s n tail es (Laws.are [] rest e w m f) = absurd (omega (arith, m))
car_body s n tail es (Laws.are (p ∷ ps) rest e w m f) =
    let d : length s - 32 ≡ suc (length tail) = sym (length-drop 32 s) ∙ ap length es in
    let far : length (take 32 s) ≡ 32 = length-take-le 32 s (omega arith) in
    let whole_part : (take 32 s ++ (length (p ∷ ps) ∷ fields (p ∷ ps))) ++ rest ≡ s =
    append_assoc (take 32 s) (length (p ∷ ps) ∷ fields (p ∷ ps)) rest ∙ rw (w, m, ← es) (take-append-drop 32 s) in
    is (record { car = take 32 s; phones = p ∷ ps }) rest (rw (es, e)) whole_part far f

car_by : (s t : List ℕ) → drop 32 s ≡ t → ReadCar s
unfolding read_car read_after read_counted
car_by s [] e = refused (rw e)
car_by s (zero ∷ tail) e = refused (rw e)
car_by s (suc n ∷ tail) e = car_body s n tail e (fields_read_lem (suc n) tail)

pub car_read_lem : (s : List ℕ) → ReadCar s
car_read_lem s = car_by s (drop 32 s) refl

-- what some cars are read from is their parts and what remains
pub data ReadCars (left : ℕ) (s : List ℕ) : Type 0 where
  refused : read_cars left s ≡ not_whole → ReadCars left s
  are : (cs : List CarIds) (rest : List ℕ) → read_cars left s ≡ whole cs rest → car_parts cs ++ rest ≡ s → length cs ≡ left → Digests cs → some_of unreadable cs ≡ false → ReadCars left s

cars_on : (left : ℕ) (s : List ℕ) (c : CarIds) (tail : List ℕ) → read_car s ≡ whole c tail → car_part c ++ tail ≡ s → length c.car ≡ 32 → unreadable c ≡ false → ReadCars left tail
    → ReadCars (suc left) s
unfolding car_parts read_cars read_on before some_of
cars_on left s c tail e w d u (refused q) = refused (rw (e, q))
cars_on left s c tail e w d u (are cs rest q x m ds us) =
    are (c ∷ cs) rest (rw (e, q)) (rw (append_assoc (car_part c) (car_parts cs) rest, x) w) (ap suc m) (d, ds) (rw (u, us))

pub cars_read : (left : ℕ) (s : List ℕ) → ReadCars left s
unfolding car_parts read_cars read_on some_of
cars_read zero s = are [] s refl refl refl tt refl
cars_read (suc left) s = go (car_read_lem s) (λ t. cars_read left t)
  where
    go : ReadCar s → ((t : List ℕ) → ReadCars left t) → ReadCars (suc left) s
    go (refused e) others = refused (rw e)
    go (is c tail e w d u) others = cars_on left s c tail e w d u (others tail)
