-- Lists: both layouts read back the ids that are laid down, and a list laid down is in range exactly if its ids fit.
use mathlib.Core.Path.{◌≡◌, refl, ap, sym, ◌∙◌}
use mathlib.Core.Bool.{Bool, true, false, cond, not, false≢true}
use mathlib.Core.List.{List, [], ◌∷◌, ◌++◌, map}
use Prim.Native.Nat.{ℕ, zero, suc, ◌-◌, ◌*◌, ◌≤◌}
use native.Mathlib.Omega.{arith}
use borrow.Author.Tests.{le-ltb, ltb-false, not-true}
use lib.Dec.{ltb}
use lib.ListN.{length, take, get_or, replicate, length-append, length-map, length-take}
use Rattle.arrays.specs.Arrays.{padded}
use Rattle.arrays.proofs.Laws.{padded_take, padded_length}
use Rattle.phones.specs.declared.ShortId.{ShortId}
use Rattle.phones.specs.declared.PhoneList.{PhoneList}
use Rattle.phones.specs.Ids.{some_of, joined, ids_fit, Left, stays, becomes, afterwards}
use Rattle.phones.specs.Phones.{id_bytes, id_of, too_long, phones_of, list_of, list_in_range, laid}
use Rattle.phones.proofs.Laws.{phones_of_list, bytes_of_id}
use Rattle.validations.proofs.Laid.{list_after_lem}
use Rattle.phones.proofs.Search.{none_cons}
use Rattle.phones.proofs.Range.{Short, range_short}
use Rattle.phones.proofs.Packed.{fits_of_list, fits_parts, parts_fit, range_fits, always_room}
use Rattle.layouts.specs.Wide.{wide_laid, WideList, wide_ids, wide_of, wide_in_range}
use Rattle.layouts.specs.Layouts.{All, Change, changed, Sized, WideSized, SameIds, Zeros}
use Rattle.layouts.proofs.All.{all_map, all_padded}
use Rattle.layouts.proofs.Laws.{fits_after}

-- ---- the old layout

bytes_of_ids : (ps : List (List ℕ)) → map id_bytes (map id_of ps) ≡ ps
bytes_of_ids [] = refl
bytes_of_ids (p ∷ ps) = rw (bytes_of_id p, bytes_of_ids ps)

laid_ids : (ps : List (List ℕ)) → take (length ps) (padded 32 (id_of []) (map id_of ps)) ≡ map id_of ps
laid_ids ps =
    let m : length (map id_of ps) ≡ length ps = length-map ps id_of in
    rw (← m, padded_take 32 (id_of []) (map id_of ps))

pub wide_reads : (ps : List (List ℕ)) → wide_ids (wide_of ps) ≡ ps
unfolding wide_ids wide_of
wide_reads ps = rw (laid_ids ps, bytes_of_ids ps)

long_of : (ps : List (List ℕ)) → some_of too_long (map id_of ps) ≡ some_of (λ (p : List ℕ). ltb 32 (length p)) ps
unfolding some_of too_long id_of
long_of [] = refl
long_of (p ∷ ps) = rw (long_of ps)

pub wide_fits : (ps : List (List ℕ)) → wide_in_range (wide_of ps) ≡ ids_fit ps
unfolding wide_in_range wide_of ids_fit
wide_fits ps = rw (laid_ids ps, long_of ps)

-- ids are no longer than their lengths say
wide_short : (ps : List ShortId) → some_of too_long ps ≡ false → some_of (λ (p : List ℕ). ltb 32 (length p)) (map id_bytes ps) ≡ false
unfolding some_of too_long id_bytes
wide_short [] h = refl
wide_short (p ∷ ps) h =
    let k = none_cons too_long p ps h in
    let s = ltb-false 32 p.len k.0 in
    let e : ltb 32 (length (take p.len p.bytes)) ≡ false = let l = length-take p.len p.bytes in le-ltb 32 (length (take p.len p.bytes)) (omega arith) in
    rw e (wide_short ps k.1)

few_short : (n : ℕ) (t : Bool) → cond (ltb 32 n) false (not t) ≡ true → (n ≤ 32) × (t ≡ false)
few_short n t h = go (ltb 32 n) refl h
  where
    go : (a : Bool) → ltb 32 n ≡ a → cond a false (not t) ≡ true → (n ≤ 32) × (t ≡ false)
    go true e k = absurd (false≢true k)
    go false e k = (ltb-false 32 n e, not-true t k)

pub wide_range_fits : (l : WideList) → wide_in_range l ≡ true → ids_fit (wide_ids l) ≡ true
unfolding wide_in_range wide_ids
wide_range_fits l h =
    let r = few_short l.count (some_of too_long (take l.count l.ids)) h in
    let few : length (map id_bytes (take l.count l.ids)) ≤ 32 = rw (length-map, length-take) (omega arith) in
    parts_fit (map id_bytes (take l.count l.ids)) few (wide_short (take l.count l.ids) r.1)

-- ---- what is laid down is read

pub packed_range : (l : PhoneList) (x : Left (List (List ℕ))) → list_in_range (laid l x) ≡ fits_after ids_fit (list_in_range l) x
packed_range l stays = refl
packed_range l (becomes ps) = fits_of_list ps

-- of the old layout, of a list or a store
module _ {A B : Type 0} (lay : B → A) where
  pub wide_ids_lem : (ids : A → B) → ((y : B) → ids (lay y) ≡ y) → (x : A) (y : Left B) → ids (wide_laid lay x y) ≡ afterwards (ids x) y
  wide_ids_lem ids k x stays = refl
  wide_ids_lem ids k x (becomes y) = k y

  pub wide_range : (range : A → Bool) (fit : B → Bool) → ((y : B) → range (lay y) ≡ fit y) → (x : A) (y : Left B) → range (wide_laid lay x y) ≡ fits_after fit (range x) y
  wide_range range fit k x stays = refl
  wide_range range fit k x (becomes y) = k y

-- ---- what is laid down of ids that fit has the size of its type

short_of : (ps : List (List ℕ)) → ids_fit ps ≡ true → Short ps
short_of ps f = λ i. rw (phones_of_list ps) at (range_short (list_of ps) (fits_of_list ps ∙ f) i)

joined_short : (ps : List (List ℕ)) → Short ps → length (joined ps) ≤ 32 * length ps
unfolding joined
joined_short [] h = omega arith
joined_short (p ∷ ps) h =
    let i = joined_short ps (λ k. h (suc k)) in
    let s : length p ≤ 32 = h zero in
    rw length-append (omega arith)

pub packed_sized : (ps : List (List ℕ)) → ids_fit ps ≡ true → Sized (list_of ps)
unfolding list_of
packed_sized ps f =
    let few = (fits_parts ps f).0 in
    let j = joined_short ps (short_of ps f) in
    let m = length-map ps length in
    (padded_length 1024 0 (joined ps) (omega arith), padded_length 32 0 (map length ps) (omega arith))

id_sized : (p : List ℕ) → length p ≤ 32 → length (id_of p).bytes ≡ 32
unfolding id_of
id_sized p h = padded_length 32 0 p h

all_short : (ps : List (List ℕ)) → Short ps → All (λ (p : List ℕ). length p ≤ 32) ps
all_short [] h = tt
all_short (p ∷ ps) h = (h zero, all_short ps (λ i. h (suc i)))

pub wide_sized : (ps : List (List ℕ)) → ids_fit ps ≡ true → WideSized (wide_of ps)
unfolding wide_of
wide_sized ps f =
    let few = (fits_parts ps f).0 in
    let m = length-map ps id_of in
    let S : ShortId → Type 0 = λ p. length p.bytes ≡ 32 in
    (padded_length 32 (id_of []) (map id_of ps) (omega arith), all_padded S 32 (id_of []) (map id_of ps) (id_sized [] (omega arith)) (all_map S id_of _ id_sized ps (all_short ps (short_of ps f))))

packs : (w : WideList) → wide_in_range w ≡ true → (l : PhoneList) × Sized l × (list_in_range l ≡ true) × (phones_of l ≡ wide_ids w)
packs w h = (list_of (wide_ids w), packed_sized (wide_ids w) (wide_range_fits w h), fits_of_list (wide_ids w) ∙ wide_range_fits w h, phones_of_list (wide_ids w))

unpacks : (l : PhoneList) → list_in_range l ≡ true → (w : WideList) × WideSized w × (wide_in_range w ≡ true) × (wide_ids w ≡ phones_of l)
unpacks l h = (wide_of (phones_of l), wide_sized (phones_of l) (range_fits l h), wide_fits (phones_of l) ∙ range_fits l h, wide_reads (phones_of l))

changes : (k : Change) (l : PhoneList) (w : WideList) → phones_of l ≡ wide_ids w → phones_of (laid l (changed k (phones_of l))) ≡ wide_ids (wide_laid wide_of w (changed k (wide_ids w)))
changes k l w e =
    list_after_lem l (changed k (phones_of l))
    ∙ ap (λ (ps : List (List ℕ)). afterwards ps (changed k ps)) e
    ∙ sym (wide_ids_lem wide_of wide_ids wide_reads w (changed k (wide_ids w)))

pub same_ids : SameIds
same_ids = record { packs = packs; unpacks = unpacks; changes = changes; room = always_room }

-- ---- zeros past what is laid down

zeros_at : (k i : ℕ) → get_or {A = ℕ} (replicate k 0) i 0 ≡ 0
zeros_at zero i = refl
zeros_at (suc k) zero = refl
zeros_at (suc k) (suc i) = zeros_at k i

past_zeros : (xs : List ℕ) (k i : ℕ) → length xs ≤ i → get_or (xs ++ replicate k 0) i 0 ≡ 0
past_zeros [] k i h = zeros_at k i
past_zeros (x ∷ xs) k zero h = absurd (omega arith)
past_zeros (x ∷ xs) k (suc i) h = past_zeros xs k i (omega arith)

pub zeros_of_list : (ps : List (List ℕ)) → Zeros (list_of ps)
unfolding list_of padded
zeros_of_list ps =
    let e = phones_of_list ps in
    let m = length-map ps length in
    record {
      bytes = λ i h. past_zeros (joined ps) (1024 - length (joined ps)) i (rw e at h);
      lens = λ i h. past_zeros (map length ps) (32 - length (map length ps)) i (omega arith);
      canonical = ap list_of (sym e);
    }
