-- Steps of the loop that writes: the first i phones stand from a place on.
use mathlib.Core.Path.{◌≡◌, refl, ap, ap₂, sym, ◌∙◌}
use mathlib.Core.List.{List, [], ◌∷◌, ◌++◌, append_assoc, append-nil}
use Prim.Native.Nat.{ℕ, suc, ◌+◌, ◌≤◌, ◌<◌}
use native.Mathlib.Numerals.{add-one}
use native.Mathlib.Omega.{arith}
use lib.ListN.{length, take, drop, set, take-append-drop, length-append}
use lib.Seq.{take-suc-set, drop-drop, drop-set-lt}
use Rattle.arrays.specs.Arrays.{put}
use Rattle.arrays.proofs.Laws.{put_take, put_drop, put_length}
use Rattle.phone_fields.specs.PhoneFields.{field, fields}

-- a byte, and a string right after it
pub put_byte : (d : List ℕ) (at n : ℕ) (s : List ℕ) → at < length d → put (set d at n) (at + 1) s ≡ put d at (n ∷ s)
unfolding put
put_byte d at n s h =
    let e : at + 1 + length s ≡ at + suc (length s) = omega arith in
    rw (e, drop-set-lt (at + suc (length s)) d at n (omega arith), add-one, take-suc-set d at n h, append_assoc (take at d) (n ∷ []) s)

-- a phone: its length, and its bytes right after it
pub put_field_lem : (d : List ℕ) (at : ℕ) (s : List ℕ) → at < length d → put (set d at (length s)) (at + 1) s ≡ put d at (field s)
unfolding field
put_field_lem d at s h = put_byte d at (length s) s h

pub field_length : (at : ℕ) (s : List ℕ) → at + 1 + length s ≡ at + length (field s)
unfolding field
field_length at s = omega arith

-- a string right after one that was written
pub put_put : (d : List ℕ) (at : ℕ) (s t : List ℕ) → at + length s ≤ length d → put (put d at s) (at + length s) t ≡ put d at (s ++ t)
unfolding put
put_put d at s t h =
    let e : at + length s + length t ≡ at + length (s ++ t) = rw length-append (omega arith) in
    let rest : drop (at + length s + length t) (put d at s) ≡ drop (at + length (s ++ t)) d =
    sym (drop-drop (length t) (at + length s) (put d at s))
    ∙ ap (λ (l : List ℕ). drop (length t) l) (put_drop d at s h)
    ∙ drop-drop (length t) (at + length s) d
    ∙ ap (λ (n : ℕ). drop n d) e in
    ap₂ (λ (x y : List ℕ). x ++ t ++ y) (put_take d at s h) rest ∙ ap (λ (x : List ℕ). x ++ drop (at + length (s ++ t)) d) (append_assoc (take at d) s t)

-- ---- the phones

fields_append : (ps qs : List (List ℕ)) → fields (ps ++ qs) ≡ fields ps ++ fields qs
unfolding fields
fields_append [] qs = refl
fields_append (p ∷ ps) qs = rw (fields_append ps qs, append_assoc (field p) (fields ps) (fields qs))

fields_one : (p : List ℕ) → fields (p ∷ []) ≡ field p
unfolding fields
fields_one p = append-nil (field p)

-- where the loop stands: of the phones ps those are written from a place on that are not left
pub record Written (ps left : List (List ℕ)) (old bytes : List ℕ) (from at : ℕ) : Type 0 where
  pub done : List (List ℕ)
  pub all : ps ≡ done ++ left
  pub place : at ≡ from + length (fields done)
  pub long : length bytes ≡ length old
  pub holds : bytes ≡ put old from (fields done)

pub written_none : (ps : List (List ℕ)) (old : List ℕ) (from : ℕ) → Written ps ps old old from from
unfolding fields put
written_none ps old from =
    let z : from + 0 ≡ from = omega arith in
    record { done = []; all = refl; place = sym z; long = refl; holds = sym (rw (z, append-nil (take from old)) (take-append-drop from old)) }

module _ (ps left : List (List ℕ)) (old bytes : List ℕ) (from at : ℕ) (room : from + length (fields ps) ≤ length old) (w : Written ps left old bytes from at) where
  module _ (s : List ℕ) (others : List (List ℕ)) (e : left ≡ s ∷ others) where
    next_fields : fields (w.done ++ (s ∷ [])) ≡ fields w.done ++ field s
    next_fields = rw (fields_append w.done (s ∷ []), fields_one s)

    whole : ps ≡ (w.done ++ (s ∷ [])) ++ others
    whole = w.all ∙ ap (λ (qs : List (List ℕ)). w.done ++ qs) e ∙ sym (append_assoc w.done (s ∷ []) others)

    next_length : length (fields w.done) + length (field s) ≤ length (fields ps)
    next_length =
        let l : length (fields ps) ≡ length (fields w.done) + length (field s) + length (fields others) = rw (whole, fields_append (w.done ++ (s ∷ [])) others, next_fields, length-append, length-append) in
        omega arith

    pub next_room : at + length (field s) ≤ length bytes
    next_room =
        let f = next_length in
        let pl = w.place in
        let wl = w.long in
        omega arith

    pub written_more : (next : List ℕ) (to : ℕ) → to ≡ at + length (field s) → next ≡ put bytes at (field s) → Written ps others old next from to
    written_more next to et en =
        let f = next_length in
        let pl = w.place in
        record {
          done = w.done ++ (s ∷ []);
          all = whole;
          place = rw (et, next_fields, length-append) (omega arith);
          long = rw (en, put_length bytes at (field s) next_room, w.long);
          holds =
              rw (en, w.holds, pl, next_fields)
              (put_put old from (fields w.done) (field s) (omega arith));
        }

  pub written_all : left ≡ [] → (at ≡ from + length (fields ps)) × (bytes ≡ put old from (fields ps))
  written_all h =
      let full : w.done ≡ ps = sym (w.all ∙ ap (λ (qs : List (List ℕ)). w.done ++ qs) h ∙ append-nil w.done) in
      (w.place ∙ ap (λ (qs : List (List ℕ)). from + length (fields qs)) full, w.holds ∙ ap (λ (qs : List (List ℕ)). put old from (fields qs)) full)
