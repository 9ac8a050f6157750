-- What the loop of `ungroup` keeps, and that ten bytes are enough.
use Rattle.std.proofs.Common.{◌≡◌, refl, sym, ◌∙◌, Bool, true, false, cond, List, [], ◌∷◌, ◌++◌, append-nil, append_assoc, ℕ, ◌+◌, ◌≤◌, ◌<◌, add-one, arith, leb-true, leb-false, leb, length, take, drop, get_or, drop_of_length-le, length-append, length-take, drop-cons, take_all, take_at}
use Rattle.arrays.specs.Arrays.{padded, same_bytes}
use Rattle.arrays.proofs.Laws.{padded_push, padded_take, same_length}
use Rattle.text.specs.Text.{is_digit, is_dropped, ungrouped_from, ungrouped}
use Rattle.text.specs.Steps.{first_ten, pushed}
use Rattle.text.specs.declared.Grouped.{Grouped}

-- ---- the invariant

-- what is left of the bytes before i is kept, and with what is left of the others it is all
pub record Kept (s : List ℕ) (g : Grouped) (behind : Bool) (i : ℕ) : Type 0 where
  pub out : List ℕ
  pub whole : ungrouped s ≡ out ++ ungrouped_from behind (drop i s)
  pub bytes : g.bytes ≡ padded 10 0 out
  pub count : g.len ≡ length out
  pub room : length out ≤ 10
  pub fits : i ≤ length s

pub kept_start : (s : List ℕ) (g : Grouped) → g.bytes ≡ padded 10 0 [] → g.len ≡ 0 → Kept s g false 0
unfolding ungrouped
kept_start s g b n = record { out = []; whole = refl; bytes = b; count = n; room = omega arith; fits = omega arith }

module _ (s : List ℕ) (g : Grouped) (behind : Bool) (i : ℕ) (k : Kept s g behind i) where
  step : (d : Bool) → is_dropped behind (get_or s i 0) (drop (i + 1) s) ≡ d → i < length s
      → ungrouped s ≡ k.out ++ cond d (ungrouped_from (is_digit (get_or s i 0)) (drop (i + 1) s)) (get_or s i 0 ∷ ungrouped_from (is_digit (get_or s i 0)) (drop (i + 1) s))
  unfolding ungrouped_from
  step d p h = let q = drop-cons s i 0 h in let r : drop i s ≡ get_or s i 0 ∷ drop (i + 1) s = rw add-one q in k.whole ∙ rw (r, p)

  -- a byte that is dropped
  pub kept_dropped : is_dropped behind (get_or s i 0) (drop (i + 1) s) ≡ true → i < length s → Kept s g (is_digit (get_or s i 0)) (i + 1)
  kept_dropped p h = record { out = k.out; whole = step true p h; bytes = k.bytes; count = k.count; room = k.room; fits = omega arith }

  -- one byte more
  pub kept_next : is_dropped behind (get_or s i 0) (drop (i + 1) s) ≡ false → i < length s → g.len < 10
      → Kept s (pushed g (get_or s i 0)) (is_digit (get_or s i 0)) (i + 1)
  kept_next p h room =
      let b = get_or s i 0 in
      record {
        out = k.out ++ (b ∷ []);
        whole = rw (append_assoc k.out (b ∷ []) (ungrouped_from (is_digit b) (drop (i + 1) s))) (step false p h);
        bytes = rw (k.bytes, k.count) (padded_push 10 0 b k.out (omega (arith, k.count)));
        count = rw (length-append k.out (b ∷ [])) (omega (arith, k.count));
        room = rw (length-append k.out (b ∷ [])) (omega (arith, k.count));
        fits = omega arith;
      }

  -- ten are the first ten
  pub kept_ten : 10 ≤ g.len → g ≡ first_ten (ungrouped s)
  unfolding first_ten
  kept_ten h =
      let ten : length k.out ≡ 10 = omega (arith, k.count, k.room) in
      rw (k.whole, take_at k.out (ungrouped_from behind (drop i s)) 10 ten, ← k.bytes, ← k.count)

  -- at the end they are all
  pub kept_end : length s ≤ i → g ≡ first_ten (ungrouped s)
  unfolding first_ten ungrouped_from
  kept_end h =
      let all : ungrouped s ≡ k.out = k.whole ∙ rw (drop_of_length-le s h) (append-nil k.out) in
      rw (all, take_all 10 k.out k.room, ← k.bytes, ← k.count)

-- ---- ten bytes are enough

pub ten_length : (s : List ℕ) → (first_ten s).len ≤ 10
unfolding first_ten
ten_length s = rw length-take (omega arith)

pub ten_bytes : (s : List ℕ) → take (first_ten s).len (first_ten s).bytes ≡ take 10 s
unfolding first_ten
ten_bytes s = padded_take 10 0 (take 10 s)

-- what is longer than nine bytes is no code, and its first ten show that
pub same_ten : (s c : List ℕ) → length c ≤ 9 → same_bytes (take 10 s) c ≡ same_bytes s c
same_ten s c h = go (leb (length s) 10) refl
  where
    go : (t : Bool) → leb (length s) 10 ≡ t → same_bytes (take 10 s) c ≡ same_bytes s c
    go true p = rw (take_all 10 s (leb-true (length s) 10 p))
    go false p =
        let q = leb-false (length s) 10 p in
        same_length (take 10 s) c (λ e. absurd (omega (arith, e, length-take 10 s)))
        ∙ sym (same_length s c (λ e. absurd (omega arith)))
