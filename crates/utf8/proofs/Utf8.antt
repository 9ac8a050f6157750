-- RFC 3629: a string is decoded exactly if it is the encoding of a list of scalar values, and to that list.
use Rattle.std.proofs.Common.{◌≡◌, refl, ap, ◌∙◌, subst, Bool, true, false, cond, List, [], ◌∷◌, ◌++◌, Option, Some, None, ℕ, zero, suc, ◌≤◌, ◌<◌, arith, length, take, drop, length-drop, take-append-drop}
use Rattle.std.proofs.Math.Seq.{drop-append_seam}
use Rattle.utf8.specs.Utf8.{scalar, scalars, encode, encode_all, decode, decode2, decode3, decode4, before, utf8_1, utf8_2, utf8_3, utf8_4}
use Rattle.utf8.specs.First.{char_of, first_char, first2, first3, first4}
use Rattle.utf8.specs.declared.Char.{Char}
use Rattle.utf8.proofs.Octets.{and_true, Encodes, form_1, form_2, form_3, form_4, first_of}

-- ---- the first character and the rest

-- what is decoded, by the first character
abbrev follow : Option Char → List ℕ → Option (List ℕ)
follow None s = None
follow (Some x) s = before x.point (decode (drop x.size s))

-- what holds of the first character
abbrev Good : Option Char → List ℕ → Type 0
Good None s = Unit {0}
Good (Some x) s = Encodes x.point (take x.size s) × (1 ≤ x.size) × (x.size ≤ length s)

pick_follow : (t : Bool) (x y : Option Char) (p q : Option (List ℕ)) (s : List ℕ) → p ≡ follow x s → q ≡ follow y s → cond t p q ≡ follow (cond t x y) s
pick_follow true x y p q s e f = e
pick_follow false x y p q s e f = f

pick_good : (t : Bool) (x y : Option Char) (s : List ℕ) → (t ≡ true → Good x s) → Good y s → Good (cond t x y) s
pick_good true x y s e f = e refl
pick_good false x y s e f = f

follows : (a : ℕ) (s : List ℕ) → decode (a ∷ s) ≡ follow (first_char (a ∷ s)) (a ∷ s)
unfolding decode first_char first2 first3 first4
follows a s = pick_follow (utf8_1 a) _ (first2 a s) _ (decode2 a s) (a ∷ s) refl (two s)
  where
    four : (b c : ℕ) (r : List ℕ) → decode4 a b c r ≡ follow (first4 a b c r) (a ∷ b ∷ c ∷ r)
    four b c [] = refl
    four b c (d ∷ r) = pick_follow (utf8_4 a b c d) _ None _ None (a ∷ b ∷ c ∷ d ∷ r) refl refl

    three : (b : ℕ) (r : List ℕ) → decode3 a b r ≡ follow (first3 a b r) (a ∷ b ∷ r)
    three b [] = refl
    three b (c ∷ r) = pick_follow (utf8_3 a b c) _ (first4 a b c r) _ (decode4 a b c r) (a ∷ b ∷ c ∷ r) refl (four b c r)

    two : (r : List ℕ) → decode2 a r ≡ follow (first2 a r) (a ∷ r)
    two [] = refl
    two (b ∷ r) = pick_follow (utf8_2 a b) _ (first3 a b r) _ (decode3 a b r) (a ∷ b ∷ r) refl (three b r)

good : (s : List ℕ) → Good (first_char s) s
unfolding first_char first2 first3 first4
good [] = tt
good (a ∷ s) = pick_good (utf8_1 a) _ (first2 a s) (a ∷ s) (λ e. (form_1 a e, omega arith, omega arith)) (two s)
  where
    four : (b c : ℕ) (r : List ℕ) → Good (first4 a b c r) (a ∷ b ∷ c ∷ r)
    four b c [] = tt
    four b c (d ∷ r) = pick_good (utf8_4 a b c d) _ None (a ∷ b ∷ c ∷ d ∷ r) (λ e. (form_4 a b c d e, omega arith, omega arith)) tt

    three : (b : ℕ) (r : List ℕ) → Good (first3 a b r) (a ∷ b ∷ r)
    three b [] = tt
    three b (c ∷ r) = pick_good (utf8_3 a b c) _ (first4 a b c r) (a ∷ b ∷ c ∷ r) (λ e. (form_3 a b c e, omega arith, omega arith)) (four b c r)

    two : (r : List ℕ) → Good (first2 a r) (a ∷ r)
    two [] = tt
    two (b ∷ r) = pick_good (utf8_2 a b) _ (first3 a b r) (a ∷ b ∷ r) (λ e. (form_2 a b e, omega arith, omega arith)) (three b r)

pub decode_bad : (s : List ℕ) → 0 < length s → first_char s ≡ None → decode s ≡ None
decode_bad [] h e = absurd (omega arith)
decode_bad (a ∷ s) h e = follows a s ∙ ap (λ (x : Option Char). follow x (a ∷ s)) e

-- a character of k octets in front
module _ (s : List ℕ) (c k : ℕ) (e : first_char s ≡ char_of c k) where
  pub first_good : Encodes c (take k s) × (1 ≤ k) × (k ≤ length s)
  first_good = subst (λ (x : Option Char). Good x s) e (good s)

pub decode_point : (s : List ℕ) (c k : ℕ) → first_char s ≡ char_of c k → decode s ≡ before c (decode (drop k s))
decode_point [] c k e = let g = first_good [] c k e in absurd (omega arith)
decode_point (a ∷ s) c k e = follows a s ∙ ap (λ (x : Option Char). follow x (a ∷ s)) e

-- ---- the two theorems

-- the encoding of scalar values is decoded to them
encode_some : (c : ℕ) (s : List ℕ) → scalar c ≡ true → decode (encode c ++ s) ≡ before c (decode s)
encode_some c s is =
    decode_point (encode c ++ s) c (length (encode c)) (first_of c s is) ∙ ap (λ (r : List ℕ). before c (decode r)) (drop-append_seam (encode c) s)

pub decode_complete : (cs : List ℕ) → scalars cs ≡ true → decode (encode_all cs) ≡ Some cs
unfolding decode encode_all scalars
decode_complete [] h = refl
decode_complete (c ∷ cs) h =
    let p = and_true (scalar c) (scalars cs) h in
    rw (encode_some c (encode_all cs) p.0, decode_complete cs p.1)

-- what is decoded are scalar values, and the string is their encoding
pub record Encoding (cs s : List ℕ) : Type 0 where
  pub are : scalars cs ≡ true
  pub octets : encode_all cs ≡ s

-- the string is decoded to c and ds, where ds is what follows a character of k octets
encoding_more : (s cs : List ℕ) (c k : ℕ) (ds : List ℕ) → first_char s ≡ char_of c k → decode (drop k s) ≡ Some ds → decode s ≡ Some cs
    → Encoding ds (drop k s) → Encoding cs s
unfolding encode_all scalars
encoding_more s cs c k ds f g e r =
    let d : decode s ≡ Some (c ∷ ds) = decode_point s c k f ∙ ap (before c) g in
    let q : cs ≡ c ∷ ds = cc in
    let h = (first_good s c k f).0 in
    record { are = rw (q, h.is) r.are; octets = rw (q, h.octets, r.octets) (take-append-drop k s) }

encoding_none : (cs : List ℕ) → decode [] ≡ Some cs → Encoding cs []
unfolding decode encode_all scalars
encoding_none cs e = let f : cs ≡ [] = cc in record { are = rw f; octets = rw f }

-- by the number of octets
sound : (n : ℕ) (s cs : List ℕ) → length s ≤ n → decode s ≡ Some cs → Encoding cs s
sound zero [] cs h e = encoding_none cs e
sound zero (a ∷ s) cs h e = absurd (omega arith)
sound (suc n) [] cs h e = encoding_none cs e
sound (suc n) (a ∷ s) cs h e = first (λ r ds l f. sound n r ds l f) (first_char (a ∷ s)) refl
  where
    Shorter : Type 0
    Shorter = (r ds : List ℕ) → length r ≤ n → decode r ≡ Some ds → Encoding ds r

    rest : Shorter → (c k : ℕ) → first_char (a ∷ s) ≡ char_of c k → (ds : Option (List ℕ)) → decode (drop k (a ∷ s)) ≡ ds → Encoding cs (a ∷ s)
    rest ih c k f None g =
        let z : decode (a ∷ s) ≡ None = decode_point (a ∷ s) c k f ∙ ap (before c) g in
        let y : ◌≡◌ {A = ℕ} 0 1 = cc in absurd (omega arith)
    rest ih c k f (Some ds) g =
        let l = first_good (a ∷ s) c k f in
        encoding_more (a ∷ s) cs c k ds f g e (ih (drop k (a ∷ s)) ds (rw length-drop (omega arith)) g)

    first : Shorter → (x : Option Char) → first_char (a ∷ s) ≡ x → Encoding cs (a ∷ s)
    first ih None f =
        let z : decode (a ∷ s) ≡ None = decode_bad (a ∷ s) (omega arith) f in
        let y : ◌≡◌ {A = ℕ} 0 1 = cc in absurd (omega arith)
    first ih (Some x) f = rest ih x.point x.size f (decode (drop x.size (a ∷ s))) refl

pub decode_sound : (s cs : List ℕ) → decode s ≡ Some cs → Encoding cs s
decode_sound s cs e = sound (length s) s cs (omega arith) e
