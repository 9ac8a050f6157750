-- A conversion, by the cars that the record says.
use mathlib.Core.Path.{◌≡◌, refl, ap, sym, ◌∙◌}
use mathlib.Core.Bool.{Bool, true, false, cond}
use mathlib.Core.List.{List, [], append-nil}
use Prim.Native.Nat.{ℕ, ◌+◌, ◌≤◌, ◌<◌}
use native.Mathlib.Omega.{arith}
use borrow.Author.Tests.{eq-eqb, ne_eqb, le-ltb, ltb-false}
use lib.Dec.{ltb}
use lib.ListN.{length, get_or, drop_of_length-le}
use Rattle.arrays.specs.Arrays.{put}
use Rattle.saved_record.specs.SavedRecord.{CarIds, twice, over, Reading, malformed, car_twice, too_large, ok, decoded}
use Rattle.saved_record.proofs.RoundTrip.{Versions, one, two, WellFormed, judged_by, accepted_well_formed, reads_back, written_back}
use Rattle.std.specs.Prelude.{Ok}
use Rattle.converter.specs.declared.ConversionError.{ConversionError}
use Rattle.converter.specs.declared.ConversionError.TheVariants.{Malformed, CarTwice, TooLarge, ManyCars}
use Rattle.converter.specs.Convert.{encoded_as, Outcome, room_of, refusal, laid_down, many_cars, converted_from, converted, conversion_number}
use Rattle.converter.specs.Theorems.{Converts, is_two}

-- r says these cars, which the version can hold, and r' is how they are written in it
pub record Means (r : List ℕ) (target : Bool) (r' : List ℕ) (cs : List CarIds) : Type 0 where
  pub says : decoded r ≡ ok cs
  pub held : many_cars target cs ≡ false
  pub written : encoded_as target cs ≡ r'

pub means_converts : (r : List ℕ) (target : Bool) (r' : List ℕ) (cs : List CarIds) → Means r target r' cs → Converts r target r'
unfolding converted converted_from
means_converts r target r' cs m out = rw (m.says, m.held, m.written)

-- ---- one outcome or another

either : (P : Outcome → Type 0) (b : Bool) (x y : Outcome) → P x → P y → P (cond b x y)
either P true x y p q = p
either P false x y p q = q

-- what holds of every refusal, and of every record that is to be laid down
pub every : (P : Outcome → Type 0) (out : List ℕ) → ((e : ConversionError) → P (refusal e out)) → ((r : List ℕ) → P (laid_down r out))
    → (x : Reading) (target : Bool) → P (converted_from x target out)
unfolding converted_from
every P out p q malformed target = p Malformed
every P out p q car_twice target = p CarTwice
every P out p q too_large target = p TooLarge
every P out p q (ok cs) target = either P (many_cars target cs) _ _ (p ManyCars) (q (encoded_as target cs))

-- ---- what is converted, means

laid_room : (r out : List ℕ) → room_of (laid_down r out).answer ≡ length r
unfolding laid_down
laid_room r out = either (λ (o : Outcome). room_of o.answer ≡ length r) (ltb (length out) (length r)) _ _ refl refl

over_all : (r out : List ℕ) → length out ≡ length r → put out 0 r ≡ r
unfolding put
over_all r out e = rw (drop_of_length-le out {i = 0 + length r} (omega arith)) (append-nil r)

-- where the output is just as long
laid_over : (r out : List ℕ) → length out ≡ length r → laid_down r out ≡ record { answer = Ok (length r); out = r }
unfolding laid_down
laid_over r out e = rw (le-ltb (length out) (length r) (omega arith), over_all r out e)

same_laid : (r s : List ℕ) → ((out : List ℕ) → laid_down r out ≡ laid_down s out) → r ≡ s
same_laid r s h =
    let n : length r ≡ length s = sym (laid_room r []) ∙ ap (λ (o : Outcome). room_of o.answer) (h []) ∙ laid_room s [] in
    ap (λ (o : Outcome). o.out) (sym (laid_over r s (sym n)) ∙ h s ∙ laid_over s s refl)

number : Outcome → ℕ
number o = conversion_number o.answer

pub converts_means : (r : List ℕ) (target : Bool) (r' : List ℕ) → Converts r target r' → (cs : List CarIds) × Means r target r' cs
unfolding converted converted_from refusal number
converts_means r target r' h = go (decoded r) refl h
  where
    done : (o : Outcome) → o ≡ laid_down r' r' → number o ≡ 0
    done o e = ap number (e ∙ laid_over r' r' refl)

    by : (cs : List CarIds) (b : Bool) → many_cars target cs ≡ b → decoded r ≡ ok cs → ((out : List ℕ) → converted_from (ok cs) target out ≡ laid_down r' out)
        → (cs : List CarIds) × Means r target r' cs
    by cs true m e k = let z : ◌≡◌ {A = ℕ} 29 0 = rw m at (done (converted_from (ok cs) target r') (k r')) in absurd (omega arith)
    by cs false m e k =
        let laid : (out : List ℕ) → laid_down (encoded_as target cs) out ≡ laid_down r' out = λ out. rw m at (k out) in
        (cs, record { says = e; held = m; written = same_laid (encoded_as target cs) r' laid })

    go : (x : Reading) → decoded r ≡ x → ((out : List ℕ) → converted_from x target out ≡ laid_down r' out) → (cs : List CarIds) × Means r target r' cs
    go malformed e k = let z : ◌≡◌ {A = ℕ} 22 0 = done _ (k r') in absurd (omega arith)
    go car_twice e k = let z : ◌≡◌ {A = ℕ} 28 0 = done _ (k r') in absurd (omega arith)
    go too_large e k = let z : ◌≡◌ {A = ℕ} 23 0 = done _ (k r') in absurd (omega arith)
    go (ok cs) e k = by cs (many_cars target cs) refl e k

-- ---- a record is written with its cars in its own version, and read back in either

pub own_version : (r : List ℕ) (cs : List CarIds) → decoded r ≡ ok cs → Means r (is_two r) r cs
unfolding many_cars encoded_as
own_version r cs e = go (accepted_well_formed r cs e).0.written
  where
    go : Versions r cs → Means r (is_two r) r cs
    go (one m w) =
        let v : get_or r 0 0 ≡ 1 = ap (λ (s : List ℕ). get_or s 0 0) w in
        rw (ne_eqb (get_or r 0 0) 2 (λ z. omega arith)) (record { says = e; held = le-ltb 1 (length cs) (omega arith); written = sym w })
    go (two m n w) =
        let v : get_or r 0 0 ≡ 2 = ap (λ (s : List ℕ). get_or s 0 0) w in
        rw (eq-eqb (get_or r 0 0) 2 v) (record { says = e; held = refl; written = written_back r cs e v })

few_cars : (r : List ℕ) (cs : List CarIds) → Versions r cs → (0 < length cs) × (length cs ≤ 4)
few_cars r cs (one m w) = (omega arith, omega arith)
few_cars r cs (two m n w) = (m, n)

pub read_again : (r : List ℕ) (target : Bool) (r' : List ℕ) (cs : List CarIds) → Means r target r' cs → decoded r' ≡ ok cs
unfolding many_cars encoded_as
read_again r target r' cs m = go target m.held m.written
  where
    a : WellFormed r cs × (twice cs ≡ false) × (over cs ≡ false)
    a = accepted_well_formed r cs m.says

    few : (0 < length cs) × (length cs ≤ 4)
    few = few_cars r cs a.0.written

    go : (t : Bool) → many_cars t cs ≡ false → encoded_as t cs ≡ r' → decoded r' ≡ ok cs
    go true h w = rw (← w) (reads_back cs few.0 few.1 a.0.digests a.1 a.0.readable a.2)
    go false h w =
        let one-car = ltb-false 1 (length cs) h in
        let some = few.0 in
        judged_by r' cs (record { written = one (omega arith) (sym w); digests = a.0.digests; readable = a.0.readable }) ∙ rw (a.1, a.2)
