-- A record that restore accepts: its cars stand where they are looked for, and their lines fit.
use Rattle.std.proofs.Common.{◌≡◌, refl, ap, sym, Bool, true, false, cond, true≢false, List, [], ◌∷◌, ◌++◌, ℕ, ◌*◌, ◌≤◌, arith, ltb-false, ltb, length, take, length-append, length-take-le, Ok, Err}
use Rattle.ascii.specs.Ascii.{ascii}
use Rattle.arrays.proofs.Laws.{padded_length}
use Rattle.decimal.specs.Decimal.{decimal_of}
use Rattle.decimal.proofs.Laws.{decimal_length}
use Rattle.hexadecimal.specs.Hex.{hex_of}
use Rattle.hexadecimal.proofs.Laws.{hex_length}
use Rattle.phones.proofs.Search.{none_cons}
use Rattle.phone_fields.specs.PhoneFields.{any_long, over_limits}
use Rattle.saved_record.specs.declared.RecordError.{RecordError}
use Rattle.saved_record.specs.declared.Store.{Store}
use Rattle.saved_record.specs.SavedRecord.{CarIds, car_parts, over, Reading, malformed, car_twice, too_large, ok, decoded}
use Rattle.saved_record.specs.Store.{cars_of, store_of, restored}
use Rattle.saved_record.proofs.Laws.{cars_of_store}
use Rattle.saved_record.proofs.Parts.{Digests}
use Rattle.saved_record.proofs.RoundTrip.{Versions, one, two, accepted_well_formed}
use Rattle.listing.specs.declared.Listing.{Listing}
use Rattle.car_lines.specs.Lines.{line, phone_lines, car_lines}
use Rattle.listing.specs.Listing.{each_car, accepted_lines, refused_lines, lines_of, lines, listed, listing_of}
use Rattle.car_lines.specs.Walk.{Stands}
use Rattle.listing.specs.Steps.{first_car}
use Rattle.car_lines.proofs.Car.{lines_parts}
use Rattle.car_lines.proofs.Laws.{line_length_lem}
use Rattle.car_lines.proofs.Walk.{stands_last}

-- ---- the lengths

lines_length : (ps : List (List ℕ)) → any_long ps ≡ false → length (phone_lines ps) ≤ 71 * length ps
unfolding phone_lines any_long
lines_length [] h = omega arith
lines_length (p ∷ ps) h = go (ltb 32 (length p)) refl h (λ q. lines_length ps q)
  where
    go : (t : Bool) → ltb 32 (length p) ≡ t → cond t true (any_long ps) ≡ false → (any_long ps ≡ false → length (phone_lines ps) ≤ 71 * length ps)
        → length (line (ascii "phone=") (hex_of p) ++ phone_lines ps) ≤ 71 * length (p ∷ ps)
    go true e q others = absurd (true≢false q)
    go false e q others =
        let s = ltb-false 32 (length p) e in
        let i = others q in
        let l = length-append (line (ascii "phone=") (hex_of p)) (phone_lines ps) in
        omega (arith, line_length_lem (ascii "phone=") (hex_of p), hex_length p)

-- 69 + 10 + 32 * 71
car_length : (c : CarIds) → length c.car ≡ 32 → over_limits c.phones ≡ false → length (car_lines c) ≤ 2351
unfolding over_limits
car_length c d h = go (ltb 32 (length c.phones)) refl h
  where
    go : (t : Bool) → ltb 32 (length c.phones) ≡ t → cond t true (any_long c.phones) ≡ false → length (car_lines c) ≤ 2351
    go true e q = absurd (true≢false q)
    go false e q =
        let s = ltb-false 32 (length c.phones) e in
        let n = lines_parts c in
        omega (arith, line_length_lem (ascii "car=") (hex_of c.car), line_length_lem (ascii "phones=") (decimal_of (length c.phones)), hex_length c.car, decimal_length 1 (length c.phones) (omega arith), lines_length c.phones q)

each_length : (cs : List CarIds) → Digests cs → over cs ≡ false → length (each_car cs) ≤ 2351 * length cs
unfolding each_car over
each_length [] d h = omega arith
each_length (c ∷ cs) d h =
    let n = none_cons (λ (x : CarIds). over_limits x.phones) c cs h in
    let l = length-append (car_lines c) (each_car cs) in
    let m = car_length c d.0 n.0 in
    let i = each_length cs d.1 n.1 in
    omega arith

-- 10 + 4 * 2351
accepted_length : (cs : List CarIds) → length cs ≤ 4 → Digests cs → over cs ≡ false → length (accepted_lines cs) ≤ 9414
unfolding accepted_lines
accepted_length cs m d h =
    let l = length-append (line (ascii "answer=") (ascii "ok")) (each_car cs) in
    let i = each_length cs d h in
    omega (arith, line_length_lem (ascii "answer=") (ascii "ok"))

-- ---- what restore answers

-- a refusal, whichever it is, is told by the same line
refused_by : (x : Reading) (r : RecordError) → Err r ≡ restored x → lines_of x ≡ refused_lines
unfolding restored lines_of
refused_by malformed r e = refl
refused_by car_twice r e = refl
refused_by too_large r e = refl
refused_by (ok cs) r e = absurd cc

pub refused_told : (input : List ℕ) (r : RecordError) → Err r ≡ restored (decoded input) → lines_of (decoded input) ≡ refused_lines
refused_told input r e = refused_by (decoded input) r e

restored_ok : (x : Reading) (s : Store) → Ok s ≡ restored x → x ≡ ok (cars_of s)
unfolding restored
restored_ok malformed s e = absurd cc
restored_ok car_twice s e = absurd cc
restored_ok too_large s e = absurd cc
restored_ok (ok cs) s e = let q : s ≡ store_of cs = cc in rw q (ap ok (sym (cars_of_store cs)))

-- the lines of an accepted record are those of its cars, which stand in it from the first place on, and they fit
pub record Fit (input : List ℕ) (cs : List CarIds) : Type 0 where
  pub same : lines_of (decoded input) ≡ accepted_lines cs
  pub stands : Stands input (first_car input) (car_parts cs)
  pub room : length (accepted_lines cs) ≤ 9414

cars_stand : (input : List ℕ) (cs : List CarIds) → Versions input cs → Stands input (first_car input) (car_parts cs) × (length cs ≤ 4)
unfolding first_car
cars_stand input cs (one m w) = (rw w (stands_last (1 ∷ []) (car_parts cs)), omega arith)
cars_stand input cs (two m n w) = (rw w (stands_last (2 ∷ length cs ∷ []) (car_parts cs)), n)

accepted_fit : (input : List ℕ) (cs : List CarIds) → decoded input ≡ ok cs → Fit input cs
unfolding lines_of
accepted_fit input cs e =
    let w = accepted_well_formed input cs e in
    let s = cars_stand input cs w.0.written in
    record { same = rw e; stands = s.0; room = accepted_length cs s.1 w.0.digests w.2 }

pub restored_fit : (input : List ℕ) (s : Store) → Ok s ≡ restored (decoded input) → Fit input (cars_of s)
restored_fit input s e = accepted_fit input (cars_of s) (restored_ok (decoded input) s e)

-- ---- every listing has room

fits_by : (input : List ℕ) (x : Reading) → decoded input ≡ x → length (lines_of x) ≤ 9414
unfolding lines_of refused_lines line
fits_by input malformed e = omega arith
fits_by input car_twice e = omega arith
fits_by input too_large e = omega arith
fits_by input (ok cs) e = (accepted_fit input cs e).room

cond_fits : (t : Bool) (a b : List ℕ) → length a ≤ 9414 → length b ≤ 9414 → length (cond t a b) ≤ 9414
cond_fits true a b h g = h
cond_fits false a b h g = g

lines_fit : (input : List ℕ) → length (lines input) ≤ 9414
unfolding lines refused_lines line
lines_fit input = cond_fits (ltb 8192 (length input)) refused_lines (lines_of (decoded input)) (omega arith) (fits_by input (decoded input) refl)

-- so its length is at most that of its bytes
pub listing_fits : (l : Listing) (input : List ℕ) → l ≡ listing_of input → l.len ≤ length l.bytes
unfolding listing_of listed
listing_fits l input e = rw (e, padded_length 9414 0 (lines input) (lines_fit input)) (lines_fit input)

pub listing_prefix : (l : Listing) (input : List ℕ) → l ≡ listing_of input → l.len ≡ length (take l.len l.bytes)
listing_prefix l input e = sym (length-take-le l.len l.bytes (listing_fits l input e))
