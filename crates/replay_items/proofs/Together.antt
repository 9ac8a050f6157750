-- The byte values of a line together are no longer than the line: each is no longer than the value of an item, and no two of them
-- are of the same item, since their keys differ.
use mathlib.Core.Path.{◌≡◌, refl, ap, sym}
use mathlib.Core.Bool.{Bool, true, false, cond, false≢true}
use mathlib.Core.List.{List, [], ◌∷◌}
use Prim.Native.Nat.{ℕ, zero, suc, ◌+◌, ◌*◌, ◌≤◌, ◌<◌}
use native.Mathlib.Omega.{arith}
use borrow.Author.Tests.{eq-eqb, eqb-true, ltb-true}
use lib.Dec.{eqb, ltb}
use lib.ListN.{length, take, drop, get_or, length-append, length-drop}
use Rattle.arrays.specs.Arrays.{same_bytes}
use Rattle.arrays.proofs.Laws.{same_bytes_is}
use Rattle.ascii.specs.Ascii.{ascii}
use Rattle.replay_script.specs.Places.{has_key, values_of, only, item_of}
use Rattle.replay_digits.specs.Digits.{is_text, is_bytes, as_bytes, pairs_of}
use Rattle.replay_script.specs.Words.{split, after_first, items_of}
use Rattle.word_table.specs.Words.{before, onto}
use Rattle.replay_digits.specs.declared.Written.{Written}
use Rattle.replay_digits.specs.declared.Written.TheVariants.{Hex, HexOrText}
use Rattle.replay_digits.proofs.Laws.{pairs_length}
use Rattle.replay_items.specs.Bytes.{bytes_in, bytes_at, bytes_of, joined}

-- ---- words of a line

lengths : List (List ℕ) → ℕ
lengths [] = 0
lengths (w ∷ ws) = length w + lengths ws

word_by : (x n : ℕ) (ws : List (List ℕ)) (t : Bool) → lengths ws ≤ n → lengths (cond t ([] ∷ ws) (onto x ws)) ≤ suc n
unfolding lengths
word_by x n ws true h = omega arith
word_by x n [] false h = omega arith
word_by x n (w ∷ ws) false h = omega arith

split_lengths : (b : ℕ) (s : List ℕ) → lengths (split b s) ≤ length s
unfolding lengths split
split_lengths b [] = omega arith
split_lengths b (x ∷ xs) = word_by x (length xs) (split b xs) (eqb x b) (split_lengths b xs)

after_lengths : (ws : List (List ℕ)) → lengths (after_first ws) ≤ lengths ws
unfolding lengths
after_lengths [] = omega arith
after_lengths (w ∷ ws) = omega arith

items_lengths : (line : List ℕ) → lengths (items_of line) ≤ length line
unfolding items_of
items_lengths line = omega (arith, after_lengths (split 32 line), split_lengths 32 line)

-- ---- the bytes of one key

said_by_lem : (v : List ℕ) (t : Bool) → length (cond t (drop 1 v) (pairs_of v)) ≤ length v
said_by_lem v true = omega (arith, length-drop 1 v)
said_by_lem v false = omega (arith, pairs_length v)

bytes_by : (form : Written) (v : List ℕ) (t : Bool) → length (cond t (as_bytes form v) []) ≤ length v
unfolding as_bytes
bytes_by form v true = said_by_lem v (is_text form v)
bytes_by form v false = omega arith

only_bytes : (form : Written) (vs : List (List ℕ)) → length (bytes_in form (only vs)) ≤ lengths vs
unfolding lengths
only_bytes form [] = omega arith
only_bytes form (v ∷ []) = omega (arith, bytes_by form v (is_bytes form v))
only_bytes form (v ∷ w ∷ vs) = omega arith

bytes_length : (form : Written) (key line : List ℕ) → length (bytes_at form key line) ≤ lengths (values_of key (items_of line))
unfolding bytes_at item_of
bytes_length form key line = only_bytes form (values_of key (items_of line))

-- ---- an item has one key

-- the first `=` stands where it is met behind bytes that are none
first_by : (t : Bool) (a b n : ℕ) → (a ≡ n → b ≡ n) → cond t 0 (suc a) ≡ suc n → cond t 0 (suc b) ≡ suc n
first_by true a b n h e = absurd (omega arith)
first_by false a b n h e = let q : b ≡ n = h (omega arith) in ap suc q

first_equals : (w : List ℕ) (n : ℕ) → n < length w → get_or w n 0 ≡ 61 → before 61 (take n w) ≡ n → before 61 w ≡ n
unfolding before
first_equals [] n h e p = absurd (omega arith)
first_equals (x ∷ w) zero h e p = rw (eq-eqb x 61 e)
first_equals (x ∷ w) (suc n) h e p = first_by (eqb x 61) (before 61 (take n w)) (before 61 w) n (first_equals w n (omega arith) e) p

-- a key has no `=`
Plain : List ℕ → Type 0
Plain k = before 61 k ≡ length k

key_by : (k w : List ℕ) (s t : Bool) → ltb (length k) (length w) ≡ s → eqb (get_or w (length k) 0) 61 ≡ t → Plain k
    → cond s (cond t (same_bytes (take (length k) w) k) false) false ≡ true → k ≡ take (before 61 w) w
unfolding Plain
key_by k w true true p q h e =
    let same : take (length k) w ≡ k = (same_bytes_is (take (length k) w) k).0 e in
    let at : before 61 w ≡ length k = first_equals w (length k) (ltb-true _ _ p) (eqb-true _ _ q) (rw same h) in
    rw at (sym same)
key_by k w true false p q h e = cc
key_by k w false t p q h e = cc

key_is : (k w : List ℕ) → Plain k → has_key k w ≡ true → k ≡ take (before 61 w) w
unfolding has_key
key_is k w h e = key_by k w (ltb (length k) (length w)) (eqb (get_or w (length k) 0) 61) refl refl h e

-- ---- several keys

among : List ℕ → List (List ℕ) → Bool
among x [] = false
among x (k ∷ ks) = cond (same_bytes k x) true (among x ks)

-- all plain, and no two the same
Apart : List (List ℕ) → Type 0
Apart [] = Unit
Apart (k ∷ ks) = Plain k × (among k ks ≡ false) × Apart ks

hits : ℕ → List ℕ → List (List ℕ) → ℕ
hits n x [] = 0
hits n x (k ∷ ks) = cond (same_bytes k x) n 0 + hits n x ks

none_by : (n m : ℕ) (t b : Bool) → cond t true b ≡ false → (b ≡ false → m ≡ 0) → cond t n 0 + m ≡ 0
none_by n m true b e h = cc
none_by n m false b e h = let q : m ≡ 0 = h e in omega arith

no_hits : (n : ℕ) (x : List ℕ) (ks : List (List ℕ)) → among x ks ≡ false → hits n x ks ≡ 0
unfolding among hits
no_hits n x [] e = refl
no_hits n x (k ∷ ks) e = none_by n (hits n x ks) (same_bytes k x) (among x ks) e (no_hits n x ks)

one_by : (n m : ℕ) (t : Bool) → (t ≡ true → m ≡ 0) → m ≤ n → cond t n 0 + m ≤ n
one_by n m true h l = let q : m ≡ 0 = h refl in omega arith
one_by n m false h l = omega arith

one_hit : (n : ℕ) (x : List ℕ) (ks : List (List ℕ)) → Apart ks → hits n x ks ≤ n
unfolding Apart hits
one_hit n x [] h = omega arith
one_hit n x (k ∷ ks) h =
    one_by n (hits n x ks) (same_bytes k x)
    (λ e. let q : k ≡ x = (same_bytes_is k x).0 e in no_hits n x ks (rw (← q) h.1))
    (one_hit n x ks h.2)

-- the values of these keys, all together
together : List (List ℕ) → List (List ℕ) → ℕ
together [] ws = 0
together (k ∷ ks) ws = lengths (values_of k ws) + together ks ws

value_by : (k w : List ℕ) (vs : List (List ℕ)) (t s : Bool) → (t ≡ true → s ≡ true)
    → lengths (cond t (drop (suc (length k)) w ∷ vs) vs) ≤ cond s (length w) 0 + lengths vs
unfolding lengths
value_by k w vs true true h = omega (arith, length-drop (suc (length k)) w)
value_by k w vs true false h = absurd (false≢true (h refl))
value_by k w vs false true h = omega arith
value_by k w vs false false h = omega arith

value_more : (k w : List ℕ) (ws : List (List ℕ)) → Plain k → lengths (values_of k (w ∷ ws)) ≤ cond (same_bytes k (take (before 61 w) w)) (length w) 0 + lengths (values_of k ws)
unfolding values_of
value_more k w ws h =
    value_by k w (values_of k ws) (has_key k w) (same_bytes k (take (before 61 w) w))
    (λ e. (same_bytes_is k (take (before 61 w) w)).1 (key_is k w h e))

more_words : (ks : List (List ℕ)) (w : List ℕ) (ws : List (List ℕ)) → Apart ks → together ks (w ∷ ws) ≤ hits (length w) (take (before 61 w) w) ks + together ks ws
unfolding together hits Apart
more_words [] w ws h = omega arith
more_words (k ∷ ks) w ws h = omega (arith, value_more k w ws h.0, more_words ks w ws h.2)

no_words : (ks : List (List ℕ)) → together ks [] ≡ 0
unfolding together values_of lengths
no_words [] = refl
no_words (k ∷ ks) = omega (arith, no_words ks)

in_words : (ks ws : List (List ℕ)) → Apart ks → together ks ws ≤ lengths ws
unfolding lengths
in_words ks [] h = omega (arith, no_words ks)
in_words ks (w ∷ ws) h = omega (arith, more_words ks w ws h, one_hit (length w) (take (before 61 w) w) ks h, in_words ks ws h)

-- ---- the eight

byte_keys : List (List ℕ)
byte_keys = ascii "phone" ∷ ascii "method" ∷ ascii "random" ∷ ascii "code" ∷ ascii "record" ∷ ascii "fingerprint" ∷ ascii "owner" ∷ ascii "output" ∷ []

keys_apart : Apart byte_keys
unfolding Apart Plain byte_keys among before same_bytes
keys_apart = (refl, refl, (refl, refl, (refl, refl, (refl, refl, (refl, refl, (refl, refl, (refl, refl, (refl, refl, tt))))))))

-- all of them, one behind the other
pub joined_size : (line : List ℕ) → length (joined (bytes_of line)) ≤ length line
unfolding together byte_keys joined bytes_of
joined_size line =
    simp length-append (omega (
      arith,
      items_lengths line,
      in_words byte_keys (items_of line) keys_apart,
      bytes_length HexOrText (ascii "phone") line,
      bytes_length HexOrText (ascii "method") line,
      bytes_length Hex (ascii "random") line,
      bytes_length HexOrText (ascii "code") line,
      bytes_length Hex (ascii "record") line,
      bytes_length Hex (ascii "fingerprint") line,
      bytes_length HexOrText (ascii "owner") line,
      bytes_length Hex (ascii "output") line,
    ))

-- ---- hexadecimal digits alone

half_by : (v : List ℕ) (t : Bool) → 2 * length (cond t (as_bytes Hex v) []) ≤ length v
unfolding as_bytes
half_by v true = omega (arith, pairs_length v)
half_by v false = omega arith

half_only : (vs : List (List ℕ)) → 2 * length (bytes_in Hex (only vs)) ≤ lengths vs
unfolding lengths
half_only [] = omega arith
half_only (v ∷ []) = omega (arith, half_by v (is_bytes Hex v))
half_only (v ∷ w ∷ vs) = omega arith

-- the lent bytes are at most half of the line
pub output_half : (line : List ℕ) → 2 * length (bytes_at Hex (ascii "output") line) ≤ length line
unfolding bytes_at item_of together Apart Plain among before
output_half line =
    let ws = items_of line in
    omega (arith, half_only (values_of (ascii "output") ws), in_words (ascii "output" ∷ []) ws (refl, refl, tt), items_lengths line)
