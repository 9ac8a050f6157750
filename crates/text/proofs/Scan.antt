-- What the loop of `trim` keeps.
use Rattle.std.proofs.Common.{◌≡◌, refl, ap, sym, ◌∙◌, Bool, true, false, cond, List, [], ◌∷◌, ◌++◌, reverse, append-nil, append_assoc, Option, Some, None, ℕ, ◌+◌, ◌-◌, ◌/◌, ◌%◌, ◌≤◌, ◌<◌, arith, leb, length, take, drop, length-append, length-take, length-drop, drop_of_length-le, take-add, take_all, drop-drop}
use mathlib.Core.List.{reverse-append, reverse-reverse, reverse-cons}
use Rattle.utf8.specs.Utf8.{encode, encode_all, decode, before}
use Rattle.text.specs.Text.{white, trim_front, trim, is_text, trimmed}
use Rattle.utf8.specs.First.{char_of, first_char}
use Rattle.utf8.proofs.Utf8.{decode_bad, decode_point, first_good}

-- ---- the trimmed list after one more code point

-- one more behind a list that was trimmed in front
abbrev after : List ℕ → ℕ → List ℕ
after [] c = trim_front (c ∷ [])
after (x ∷ xs) c = (x ∷ xs) ++ (c ∷ [])

front_more : (p : List ℕ) (c : ℕ) → trim_front (p ++ (c ∷ [])) ≡ after (trim_front p) c
unfolding trim_front
front_more [] c = refl
front_more (x ∷ p) c = go (white x) (front_more p c)
  where
    go : (t : Bool) → trim_front (p ++ (c ∷ [])) ≡ after (trim_front p) c
        → cond t (trim_front (p ++ (c ∷ []))) (x ∷ (p ++ (c ∷ []))) ≡ after (cond t (trim_front p) (x ∷ p)) c
    go true e = e
    go false e = refl

-- a code point that is kept in front: trimmed behind if white, else the end
module _ (p : List ℕ) (c : ℕ) (kept : trim_front (p ++ (c ∷ [])) ≡ trim_front p ++ (c ∷ [])) where
  trim_white : white c ≡ true → trim (p ++ (c ∷ [])) ≡ trim p
  unfolding trim trim_front
  trim_white w = rw (kept, reverse-append (trim_front p) (c ∷ []), w)

  trim_solid : white c ≡ false → trim (p ++ (c ∷ [])) ≡ trim_front p ++ (c ∷ [])
  unfolding trim trim_front
  trim_solid w = rw (kept, reverse-append (trim_front p) (c ∷ []), w, reverse-cons c (reverse (trim_front p)), reverse-reverse (trim_front p))

kept_solid : (p : List ℕ) (c : ℕ) → white c ≡ false → trim_front (p ++ (c ∷ [])) ≡ trim_front p ++ (c ∷ [])
unfolding trim_front
kept_solid p c w = front_more p c ∙ go (trim_front p)
  where
    go : (l : List ℕ) → after l c ≡ l ++ (c ∷ [])
    go [] = rw w
    go (x ∷ l) = refl

kept_later : (p : List ℕ) (c : ℕ) → (trim_front p ≡ [] → ⊥) → trim_front (p ++ (c ∷ [])) ≡ trim_front p ++ (c ∷ [])
kept_later p c h = front_more p c ∙ go (trim_front p) h
  where
    go : (l : List ℕ) → (l ≡ [] → ⊥) → after l c ≡ l ++ (c ∷ [])
    go [] h = absurd (h refl)
    go (x ∷ l) h = refl

module _ (p : List ℕ) (c : ℕ) (none : trim_front p ≡ []) (w : white c ≡ true) where
  front_blank : trim_front (p ++ (c ∷ [])) ≡ []
  unfolding trim_front
  front_blank = front_more p c ∙ rw (none, w)

  trim_blank : trim (p ++ (c ∷ [])) ≡ []
  unfolding trim trim_front
  trim_blank = rw (front_blank)

-- ---- octets

-- what stands from a to before e
abbrev part : ℕ → ℕ → List ℕ → List ℕ
part a e s = take (e - a) (drop a s)

encode_more : (p : List ℕ) (c : ℕ) → encode_all (p ++ (c ∷ [])) ≡ encode_all p ++ encode c
unfolding encode_all
encode_more [] c = append-nil (encode c)
encode_more (x ∷ p) c = rw (encode_more p c) (sym (append_assoc (encode x) (encode_all p) (encode c)))

part_more : (s : List ℕ) (f m k : ℕ) → f ≤ m → part f m s ++ take k (drop m s) ≡ part f (m + k) s
part_more s f m k h =
    let e : m + k - f ≡ m - f + k = omega arith in
    let g : f + (m - f) ≡ m = omega arith in
    rw (e, take-add (m - f) k (drop f s), drop-drop (m - f) f s, g)

part_empty : (s : List ℕ) (f : ℕ) → part f f s ≡ []
part_empty s f = let e : f - f ≡ 0 = omega arith in rw e

part_length : (s : List ℕ) (f m : ℕ) → m ≤ length s → length (part f m s) ≡ m - f
part_length s f m h = simp (length-take, length-drop) (omega arith)

encode_long : (c : ℕ) → 0 < length (encode c)
unfolding encode
encode_long c = go (leb c 0x7F) (leb c 0x7FF) (leb c 0xFFFF)
  where
    go : (x y z : Bool) → 0 < length (cond x (c ∷ []) (cond y ((0xC0 + c / 64) ∷ (0x80 + c % 64) ∷ [])
        (cond z ((0xE0 + c / 4096) ∷ (0x80 + c / 64 % 64) ∷ (0x80 + c % 64) ∷ [])
        ((0xF0 + c / 262144) ∷ (0x80 + c / 4096 % 64) ∷ (0x80 + c / 64 % 64) ∷ (0x80 + c % 64) ∷ []))))
    go true y z = omega arith
    go false true z = omega arith
    go false false true = omega arith
    go false false false = omega arith

encode_none : (p : List ℕ) → length (encode_all p) ≡ 0 → p ≡ []
unfolding encode_all
encode_none [] h = refl
encode_none (c ∷ p) h = absurd (omega (arith, encode_long c, length-append (encode c) (encode_all p)))

-- ---- decoding, with code points in front

abbrev joined : List ℕ → Option (List ℕ) → Option (List ℕ)
joined p None = None
joined p (Some cs) = Some (p ++ cs)

joined_none : (x : Option (List ℕ)) → x ≡ joined [] x
joined_none None = refl
joined_none (Some cs) = refl

joined_more : (p : List ℕ) (c : ℕ) (x : Option (List ℕ)) → joined p (before c x) ≡ joined (p ++ (c ∷ [])) x
joined_more p c None = refl
joined_more p c (Some cs) = ap (λ (l : List ℕ). Some l) (sym (append_assoc p (c ∷ []) cs))

-- ---- the invariant

-- the code points before at; from start to end stands what is left of them trimmed, and from start to at what is left of
-- them trimmed in front only
pub record Scanned (s : List ℕ) (start end at : ℕ) : Type 0 where
  pub seen : List ℕ
  pub rest : decode s ≡ joined seen (decode (drop at s))
  pub front : encode_all (trim_front seen) ≡ part start at s
  pub both : encode_all (trim seen) ≡ part start end s
  pub order : start ≤ end
  pub inside : end ≤ at
  pub fits : at ≤ length s
  pub empty : start ≡ end → start ≡ at

pub scan_start : (s : List ℕ) → Scanned s 0 0 0
unfolding trim trim_front encode_all
scan_start s =
    record {
      seen = [];
      rest = joined_none (decode s);
      front = refl;
      both = refl;
      order = omega arith;
      inside = omega arith;
      fits = omega arith;
      empty = λ e. refl;
    }

part_all : (s : List ℕ) (at : ℕ) → part at (length s) s ≡ drop at s
part_all s at = take_all (length s - at) (drop at s) (rw length-drop (omega arith))

-- one more code point, of k octets
module _ (s : List ℕ) (start end at c k : ℕ) (i : Scanned s start end at) (e : char_of c k ≡ first_char (part at (length s) s)) where
  here : first_char (drop at s) ≡ char_of c k
  here = ap first_char (sym (part_all s at)) ∙ sym e

  more : List ℕ
  more = i.seen ++ (c ∷ [])

  more_rest : decode s ≡ joined more (decode (drop (at + k) s))
  unfolding more
  more_rest =
      let r = drop at s in
      rw (← drop-drop k at s)
      (i.rest ∙ ap (joined i.seen) (decode_point r c k here) ∙ joined_more i.seen c (decode (drop k r)))

  octets : encode c ≡ take k (drop at s)
  octets = (first_good (drop at s) c k here).0.octets

  -- it goes on, and not past the end
  pub scan_next : (1 ≤ k) × (at + k ≤ length s)
  scan_next = let g = first_good (drop at s) c k here in (g.1, omega (arith, g.2, i.fits, length-drop at s))

  -- kept in front
  module _ (kept : trim_front more ≡ trim_front i.seen ++ (c ∷ [])) where
    more_front : encode_all (trim_front more) ≡ part start (at + k) s
    more_front = rw (kept, encode_more (trim_front i.seen) c, i.front, octets) (part_more s start at k (omega (arith, i.order, i.inside)))

  -- white while nothing is kept: the empty part goes along
  pub scan_blank : white c ≡ true → start ≡ end → Scanned s (at + k) (at + k) (at + k)
  unfolding more encode_all
  scan_blank w q =
      let p = i.empty q in
      let n : trim_front i.seen ≡ [] = encode_none (trim_front i.seen) (rw (i.front, p) (ap length (part_empty s at))) in
      record {
        seen = more;
        rest = more_rest;
        front = rw (front_blank i.seen c n w) (sym (part_empty s (at + k)));
        both = rw (trim_blank i.seen c n w) (sym (part_empty s (at + k)));
        order = omega arith;
        inside = omega arith;
        fits = scan_next.1;
        empty = λ e. refl;
      }

  -- white later: the part stays
  pub scan_white : white c ≡ true → (start ≡ end → ⊥) → Scanned s start end (at + k)
  unfolding more encode_all
  scan_white w q =
      let kept : trim_front more ≡ trim_front i.seen ++ (c ∷ []) = kept_later i.seen c some_kept in
      record {
        seen = more;
        rest = more_rest;
        front = more_front kept;
        both = rw (trim_white i.seen c kept w) i.both;
        order = i.order;
        inside = omega arith;
        fits = scan_next.1;
        empty = λ e. absurd (q e);
      }
    where
      some_kept : trim_front i.seen ≡ [] → ⊥
      some_kept n =
          q (omega (arith, sym (part_length s start at i.fits) ∙ ap length (sym i.front) ∙ ap (λ (l : List ℕ). length (encode_all l)) n))

  -- any other: the part ends behind it
  pub scan_solid : white c ≡ false → Scanned s start (at + k) (at + k)
  unfolding more
  scan_solid w =
      let kept : trim_front more ≡ trim_front i.seen ++ (c ∷ []) = kept_solid i.seen c w in
      record {
        seen = more;
        rest = more_rest;
        front = more_front kept;
        both = ap encode_all (trim_solid i.seen c kept w ∙ sym kept) ∙ more_front kept;
        order = omega arith;
        inside = omega arith;
        fits = scan_next.1;
        empty = λ q. absurd (omega (arith, scan_next.0));
      }

-- ---- the answers

module _ (s : List ℕ) (start end at : ℕ) (i : Scanned s start end at) where
  pub scan_bad : at < length s → None ≡ first_char (part at (length s) s) → is_text s ≡ false
  unfolding is_text
  scan_bad h e =
      let f : first_char (drop at s) ≡ None = ap first_char (sym (part_all s at)) ∙ sym e in
      let d : decode s ≡ None = i.rest ∙ ap (joined i.seen) (decode_bad (drop at s) (rw length-drop (omega arith)) f) in
      rw d

  pub scan_end : length s ≤ at → (is_text s ≡ true) × (trimmed s ≡ part start end s)
  unfolding is_text trimmed decode
  scan_end h =
      let d : decode s ≡ Some i.seen = rw (drop_of_length-le s h, append-nil i.seen) at i.rest in
      (rw d, rw d i.both)
