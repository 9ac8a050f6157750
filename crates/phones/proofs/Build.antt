-- Ids laid down one after the other.
use Rattle.std.proofs.Common.{◌≡◌, refl, sym, ap, ◌∙◌, ℕ, ◌+◌, ◌<◌, ◌≤◌, min, arith, Bool, true, false, ltb, not, List, [], ◌∷◌, ◌++◌, map, length, take, set, length-append}
use mathlib.Core.Bool.{◌&&◌, false≢true}
use mathlib.Core.List.{map-append}
use borrow.Author.Tests.{ltb-true, ltb-false}
use Rattle.std.proofs.lemmas.List.{length-map}
use Rattle.arrays.specs.Arrays.{padded, put}
use Rattle.arrays.proofs.Laws.{padded_push, put_padded}
use Rattle.phones.specs.declared.PhoneList.{PhoneList}
use Rattle.phones.specs.Ids.{joined, room_for}
use Rattle.phones.specs.Phones.{ids_in, phones_of, list_of}
use Rattle.phones.proofs.Laws.{phones_length, phones_of_list, joined_snoc}
use Rattle.phones.proofs.Walk.{ids_bytes, ids_end}

-- one length more
pub lens_more : (lens : List ℕ) (k n : ℕ) (ps : List (List ℕ)) (p : List ℕ) → lens ≡ padded 32 0 (map length ps) → k ≡ length ps → k < 32 → n ≡ length p
    → set lens k n ≡ padded 32 0 (map length (ps ++ (p ∷ [])))
lens_more lens k n ps p e f h g =
    let m : length (map length ps) ≡ length ps = length-map ps length in
    rw (e, f, g, map-append, ← padded_push 32 0 (length p) (map length ps) (omega arith), m)

-- its bytes
bytes_more : (b : List ℕ) (e : ℕ) (ps : List (List ℕ)) (p : List ℕ) → b ≡ padded 1024 0 (joined ps) → e ≡ length (joined ps)
    → put b e p ≡ padded 1024 0 (joined (ps ++ (p ∷ [])))
bytes_more b e ps p h k = rw (h, k, joined_snoc) (put_padded 1024 0 (joined ps) p)

-- an id put last in a canonical list, whose ids end at e
module _ (l : PhoneList) (e : ℕ) (p : List ℕ) (canonical : l ≡ list_of (phones_of l)) (ends : e ≡ length (joined (phones_of l))) (place : l.count < 32) where
  pub pushed_is : ◌≡◌ {A = PhoneList} (record { bytes = put l.bytes e p; lens = set l.lens l.count (length p); count = l.count + 1 })
      (list_of (phones_of l ++ (p ∷ [])))
  unfolding list_of
  pushed_is =
      let ps = phones_of l in
      let count : l.count ≡ length ps = ap (λ (m : PhoneList). m.count) canonical in
      let bytes : l.bytes ≡ padded 1024 0 (joined ps) = ap (λ (m : PhoneList). m.bytes) canonical in
      let lens : l.lens ≡ padded 32 0 (map length ps) = ap (λ (m : PhoneList). m.lens) canonical in
      let many : l.count + 1 ≡ length (ps ++ (p ∷ [])) = ap (λ (n : ℕ). n + 1) count ∙ sym (length-append ps (p ∷ [])) in
      rw (bytes_more l.bytes e ps p bytes ends, many, lens_more l.lens l.count (length p) ps p lens count place refl)

-- all ids of a list copied at once, with their lengths as they were cut
pub copied_is : (l : PhoneList) (lens : List ℕ) (e count : ℕ) → length l.lens ≡ 32 → lens ≡ padded 32 0 (map length (phones_of l)) → e ≡ length (joined (phones_of l)) → count ≡ min l.count 32
    → ◌≡◌ {A = PhoneList} (record { bytes = padded 1024 0 (take e l.bytes); lens = lens; count = count }) (list_of (phones_of l))
unfolding list_of phones_of
copied_is l lens e count many is_lens ends is_count =
    let ids = ids_in (take l.count l.lens) l.bytes in
    let bytes : take e l.bytes ≡ joined ids = rw ends (ids_bytes (take l.count l.lens) l.bytes) in
    rw (bytes, is_lens, is_count, ← phones_length l many)

pub ends_within : (l : PhoneList) → length l.bytes ≡ 1024 → length (joined (phones_of l)) ≤ 1024
unfolding phones_of
ends_within l far = let e = ids_end (take l.count l.lens) l.bytes in omega arith

-- ---- what a list is that was laid canonically

module _ (l : PhoneList) (ps : List (List ℕ)) (is : l ≡ list_of ps) where
  pub laid_ids : phones_of l ≡ ps
  laid_ids = ap phones_of is ∙ phones_of_list ps

  pub laid_canonical : l ≡ list_of (phones_of l)
  laid_canonical = is ∙ ap list_of (sym laid_ids)

  pub laid_count : l.count ≡ length ps
  unfolding list_of
  laid_count = ap (λ (m : PhoneList). m.count) is

-- ---- room

pub room_is : (s : List ℕ) (ps : List (List ℕ)) → room_for s ps ≡ true → (length ps < 32) × (length (joined ps) + length s ≤ 1024)
unfolding room_for
room_is s ps h = go (ltb (length ps) 32) (ltb 1024 (length (joined ps) + length s)) refl refl h
  where
    go : (t u : Bool) → ltb (length ps) 32 ≡ t → ltb 1024 (length (joined ps) + length s) ≡ u → t && not u ≡ true → (length ps < 32) × (length (joined ps) + length s ≤ 1024)
    go true false e f k = (ltb-true _ _ e, ltb-false _ _ f)
    go true true e f k = absurd (false≢true k)
    go false u e f k = absurd (false≢true k)
