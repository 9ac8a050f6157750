-- A right code, by how it looks: `spaced_right`.
use Rattle.std.proofs.Common.{◌≡◌, refl, ap, sym, subst, ◌∙◌, Bool, true, false, cond, List, [], ◌∷◌, ◌++◌, ⊎_elim, ℕ, zero, suc, arith, ne_eqb, eqb-true, eqb, take}
use Rattle.std.proofs.Math.Bool.{false≢true}
use Rattle.arrays.specs.Arrays.{same_bytes}
use Rattle.arrays.proofs.Laws.{same_refl, same_bytes_is}
use Rattle.utf8.specs.Utf8.{within}
use Rattle.text.specs.Text.{is_text, trimmed, is_digit, is_separator, begins_digit, is_dropped, ungrouped_from, ungrouped, right}
use Rattle.text.specs.Spaced.{Gap, nothing, blank, hyphen, Spaced, empty, last, next, Digits, SpacedRight}
use Rattle.utf8.proofs.Ranges.{inside, within_true}
use Rattle.utf8.proofs.Octets.{and_true, or_true}

-- ---- digits and separators

abbrev Each : List ℕ → Type 0
Each [] = Unit {0}
Each (d ∷ ds) = (is_digit d ≡ true) × Each ds

each : (n : ℕ) (code : List ℕ) → Digits n code → Each (take n code)
unfolding is_digit
each zero code h = tt
each (suc n) [] h = tt
each (suc n) (d ∷ code) h =
    let p = h 0 (omega arith) in
    (inside 48 57 d p.0 p.1, each n code (λ i q. h (suc i) (omega arith)))

digit_stays : (d : ℕ) → is_digit d ≡ true → is_separator d ≡ false
unfolding is_digit is_separator
digit_stays d e =
    let p = within_true 48 57 d e in
    rw (ne_eqb d 32 (λ q. absurd (omega (arith, p.0))), ne_eqb d 45 (λ q. absurd (omega (arith, p.0))))

gap_of : (b : ℕ) → is_separator b ≡ true → Gap (b ∷ []) × (is_digit b ≡ false)
unfolding is_separator is_digit within
gap_of b e =
    ⊎_elim
    (λ p. subst (λ (x : ℕ). Gap (x ∷ []) × (is_digit x ≡ false)) (sym (eqb-true b 32 p)) (blank, refl))
    (λ p. subst (λ (x : ℕ). Gap (x ∷ []) × (is_digit x ≡ false)) (sym (eqb-true b 45 p)) (hyphen, refl))
    (or_true (eqb b 32) (eqb b 45) e)

-- ---- a spaced form is read as its digits

digit_kept : (behind : Bool) (d : ℕ) (s : List ℕ) → is_digit d ≡ true → ungrouped_from behind (d ∷ s) ≡ d ∷ ungrouped_from true s
unfolding ungrouped_from is_dropped
digit_kept true d s e = rw (digit_stays d e, e)
digit_kept false d s e = rw e

begins : (e : ℕ) (ds s : List ℕ) → is_digit e ≡ true → Spaced (e ∷ ds) s → begins_digit s ≡ true
unfolding begins_digit
begins e ds s h (last d) = h
begins e ds s h (next d x xs gap t g r) = h

gap_dropped : (gap s : List ℕ) → Gap gap → begins_digit s ≡ true → (ds : List ℕ) → ((behind : Bool) → ungrouped_from behind s ≡ ds)
    → ungrouped_from true (gap ++ s) ≡ ds
unfolding ungrouped_from is_dropped is_separator is_digit within
gap_dropped gap s nothing b ds r = r true
gap_dropped gap s blank b ds r = rw b (r false)
gap_dropped gap s hyphen b ds r = rw b (r false)

read : (ds s : List ℕ) → Each ds → Spaced ds s → (behind : Bool) → ungrouped_from behind s ≡ ds
unfolding ungrouped_from
read ds s e empty behind = refl
read ds s e (last d) behind = digit_kept behind d [] e.0
read ds s e (next d x xs gap t g r) behind =
    digit_kept behind d (gap ++ t) e.0
    ∙ ap (λ (l : List ℕ). d ∷ l) (gap_dropped gap t g (begins x xs t e.1.0 r) (x ∷ xs) (λ (f : Bool). read (x ∷ xs) t e.1 r f))

-- ---- what is read as digits is a spaced form of them

-- behind a digit: a spaced form, and a gap before it if there is a digit at all
data Behind : List ℕ → List ℕ → Type 0 where
  close : (ds s : List ℕ) → Spaced ds s → Behind ds s
  apart : (e : ℕ) (ds gap s : List ℕ) → Gap gap → Spaced (e ∷ ds) s → Behind (e ∷ ds) (gap ++ s)

joined : (b : ℕ) (ds s : List ℕ) → Behind ds s → Spaced (b ∷ ds) (b ∷ s)
joined b ds s (apart e es gap t g r) = next b e es gap t g r
joined b ds s (close es t r) = go es t r
  where
    go : (es t : List ℕ) → Spaced es t → Spaced (b ∷ es) (b ∷ t)
    go es t empty = last b
    go es t (last d) = next b d [] [] (d ∷ []) nothing (last d)
    go es t (next d x xs gap u g r) = next b d (x ∷ xs) [] (d ∷ gap ++ u) nothing (next d x xs gap u g r)

abbrev Found : Bool → List ℕ → List ℕ → Type 0
Found true ds s = Behind ds s
Found false ds s = Spaced ds s

found : (behind : Bool) (ds s : List ℕ) → Spaced ds s → Found behind ds s
found true ds s r = close ds s r
found false ds s r = r

-- a byte that is dropped is a gap
parted : (behind : Bool) (b : ℕ) (ds s : List ℕ) → is_dropped behind b s ≡ true → Spaced ds s → Found behind ds (b ∷ s)
unfolding is_dropped begins_digit
parted false b ds s p r = absurd (false≢true p)
parted true b ds s p r = go ds s (and_true (is_separator b) (begins_digit s) p).1 r
  where
    go : (ds s : List ℕ) → begins_digit s ≡ true → Spaced ds s → Behind ds (b ∷ s)
    go ds s q empty = absurd (false≢true q)
    go ds s q (last d) = apart d [] (b ∷ []) (d ∷ []) (gap_of b (and_true (is_separator b) _ p).0).0 (last d)
    go ds s q (next d x xs gap t g r) =
        apart d (x ∷ xs) (b ∷ []) (d ∷ gap ++ t) (gap_of b (and_true (is_separator b) _ p).0).0 (next d x xs gap t g r)

dropped_separator : (behind : Bool) (b : ℕ) (s : List ℕ) → is_dropped behind b s ≡ true → is_separator b ≡ true
unfolding is_dropped
dropped_separator false b s p = absurd (false≢true p)
dropped_separator true b s p = (and_true (is_separator b) (begins_digit s) p).0

unread : (behind : Bool) (s : List ℕ) → Each (ungrouped_from behind s) → Found behind (ungrouped_from behind s) s
unfolding ungrouped_from
unread behind [] e = found behind [] [] empty
unread behind (b ∷ s) e = go (is_dropped behind b s) refl (λ (k : Each (ungrouped_from (is_digit b) s)). unread (is_digit b) s k) e
  where
    rest : List ℕ
    rest = ungrouped_from (is_digit b) s

    go : (x : Bool) → is_dropped behind b s ≡ x → (Each rest → Found (is_digit b) rest s) → Each (cond x rest (b ∷ rest))
        → Found behind (cond x rest (b ∷ rest)) (b ∷ s)
    go true p later e =
        let no = (gap_of b (dropped_separator behind b s p)).1 in
        parted behind b rest s p (subst (λ (x : Bool). Found x rest s) no (later e))
    go false p later e = found behind (b ∷ rest) (b ∷ s) (joined b rest s (subst (λ (x : Bool). Found x rest s) e.0 (later e.1)))

-- ---- the theorem

pub spaced_right : SpacedRight
unfolding right ungrouped
spaced_right n code typed h = (looks, is)
  where
    looks : right code n typed ≡ true → (is_text typed ≡ true) × Spaced (take n code) (trimmed typed)
    looks r =
        let p = and_true (is_text typed) (same_bytes (ungrouped (trimmed typed)) (take n code)) r in
        let e = (same_bytes_is (ungrouped (trimmed typed)) (take n code)).0 p.1 in
        (p.0, subst (λ (ds : List ℕ). Spaced ds (trimmed typed)) e (unread false (trimmed typed) (subst Each (sym e) (each n code h))))

    is : (is_text typed ≡ true) × Spaced (take n code) (trimmed typed) → right code n typed ≡ true
    is p = rw (p.0, read (take n code) (trimmed typed) (each n code h) p.1 false) (same_refl (take n code))
