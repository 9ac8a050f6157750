-- A message in pieces: from block to block, and cut at a block.
use Rattle.std.proofs.Common.{◌≡◌, ℕ, zero, suc, ◌+◌, ◌-◌, ◌*◌, ◌/◌, ◌%◌, ◌^◌, ◌<◌, ◌≤◌, Bool, true, false, ltb, List, [], ◌∷◌, ◌++◌, length, get_or, take, drop, replicate, sym, refl, ap, ◌∙◌, ap₂, append_assoc, add-zero, add-suc, add-one, arith, length-append, length-drop, take-append-drop, length-take-le, get_or-append-add, ltb-true}
use Rattle.std.proofs.Math.ListN.{get_or-append, length-replicate}
use Rattle.sha256_block.specs.Block.{word, M, W, next, rounds, plus}
use Rattle.sha256.specs.Sha256.{hash_from, k, pad, pad_last, bytes, bytes8, finished, sha256, block_count, H₀}

-- ---- the blocks of a longer list

-- the schedule looks at the first sixteen words of its block
next_same : (m n : ℕ → ℕ) (w : List ℕ) (t : ℕ) (b : Bool) → ltb t 16 ≡ b → ((t : ℕ) → t < 16 → m t ≡ n t) → next m w t ≡ next n w t
next_same m n w t true e h = rw e (h t (ltb-true t 16 e))
next_same m n w t false e h = rw e

W-same : (m n : ℕ → ℕ) (t : ℕ) → ((t : ℕ) → t < 16 → m t ≡ n t) → W m t ≡ W n t
unfolding W
W-same m n zero h = refl
W-same m n (suc t) h =
    let e = W-same m n t h in
    ap₂ (λ (w : List ℕ) (x : ℕ). w ++ x ∷ []) e (next_same m n (W m t) t (ltb t 16) refl h ∙ ap (λ (w : List ℕ). next n w t) e)

-- a word is told by its four bytes
word_same : (p q : List ℕ) (x y : ℕ) → ((j : ℕ) → j < 4 → get_or p (x + j) 0 ≡ get_or q (y + j) 0) → word p x ≡ word q y
word_same p q x y h =
    let a : get_or p x 0 ≡ get_or q y 0 = simp add-zero at (h 0 (omega arith)) in
    let b = h 1 (omega arith) in
    let c = h 2 (omega arith) in
    let d = h 3 (omega arith) in
    λ i. a i * 2 ^ 24 + b i * 2 ^ 16 + c i * 2 ^ 8 + d i

-- within a list that is followed by another
word_front : (a c : List ℕ) (x : ℕ) → x + 4 ≤ length a → word (a ++ c) x ≡ word a x
word_front a c x l = word_same (a ++ c) a x x (λ j u. get_or-append a c 0 (x + j) (omega arith))

-- past the first of two lists
word_behind : (a c : List ℕ) (x y : ℕ) → x ≡ length a + y → word (a ++ c) x ≡ word c y
word_behind a c x y e =
    word_same (a ++ c) c x y (λ j u. ap (λ (n : ℕ). get_or (a ++ c) n 0) (omega arith) ∙ get_or-append-add a c (y + j) 0)

-- what follows the blocks does not change their hash value
pub hash_from_front : (h a c : List ℕ) (i : ℕ) → 64 * i ≤ length a → hash_from h (a ++ c) i ≡ hash_from h a i
unfolding hash_from
hash_from_front h a c zero l = refl
hash_from_front h a c (suc i) l =
    let e = hash_from_front h a c i (omega arith) in
    let f = W-same (M (a ++ c) i) (M a i) 64 (λ t u. word_front a c (64 * i + 4 * t) (omega arith)) in
    ap₂ (λ (w g : List ℕ). plus (rounds w g 64) g) f e

-- i blocks, and then j more
pub hash_from_append : (h a c : List ℕ) (i j : ℕ) → length a ≡ 64 * i → hash_from (hash_from h a i) c j ≡ hash_from h (a ++ c) (i + j)
unfolding hash_from
hash_from_append h a c i zero l = rw add-zero (sym (hash_from_front h a c i (omega arith)))
hash_from_append h a c i (suc j) l =
    let e = hash_from_append h a c i j l in
    let f = W-same (M c j) (M (a ++ c) (i + j)) 64 (λ t u. sym (word_behind a c (64 * (i + j) + 4 * t) (64 * j + 4 * t) (omega arith))) in
    rw add-suc (ap₂ (λ (w g : List ℕ). plus (rounds w g 64) g) f e)

-- one block more
pub block_more : (h p : List ℕ) (i : ℕ) → hash_from h p (i + 1) ≡ plus (rounds (W (M p i) 64) (hash_from h p i) 64) (hash_from h p i)
unfolding hash_from
block_more h p i = rw add-one

-- ---- the padding of a longer message

-- the padded end of a message is whole blocks
pub pad_last_length : (m : List ℕ) (n : ℕ) → length (pad_last m n) ≡ 64 * block_count (length m)
unfolding pad_last
pad_last_length m n =
    let z = k (8 * length m) / 8 in
    length-append (m ++ (0x80 ∷ []) ++ replicate z 0) (bytes8 (8 * n))
    ∙ ap (λ (x : ℕ). x + 8) (length-append (m ++ (0x80 ∷ [])) (replicate z 0) ∙ ap₂ ◌+◌ (length-append m (0x80 ∷ [])) (length-replicate z 0))
    ∙ omega arith

-- how many blocks a padded message has
pub pad_blocks : (m : List ℕ) → length (pad m) / 64 ≡ block_count (length m)
pad_blocks m = omega (arith, pad_last_length m (length m))

-- whole blocks in front of it change nothing of it
pad_last_append : (n : ℕ) (a b : List ℕ) (i : ℕ) → length a ≡ 64 * i → pad_last (a ++ b) n ≡ a ++ pad_last b n
unfolding pad_last
pad_last_append n a b i l =
    let e : k (8 * length (a ++ b)) / 8 ≡ k (8 * length b) / 8 = rw length-append (omega arith) in
    ap (λ (z : ℕ). a ++ b ++ (0x80 ∷ []) ++ replicate z 0 ++ bytes8 (8 * n)) e ∙ simp append_assoc

-- ---- the end of a message

-- blocks that were hashed before, or that stand in front of the rest, are the same
pub finished_append : (h a b : List ℕ) (n i : ℕ) → length a ≡ 64 * i → finished (hash_from h a i) b n ≡ finished h (a ++ b) n
unfolding finished
finished_append h a b n i l =
    let p = pad_last b n in
    let e : pad_last (a ++ b) n ≡ a ++ p = pad_last_append n a b i l in
    let j : i + length p / 64 ≡ length (a ++ p) / 64 = omega (arith, length-append a p, pad_last_length b n) in
    ap bytes (hash_from_append h a p i (length p / 64) l ∙ ap₂ (hash_from h) (sym e) (j ∙ ap (λ (q : List ℕ). length q / 64) (sym e)))

-- a message cut at a block: the hash value after the i blocks a, finished with the rest b, gives the digest of the two
pub cut_at_a_block : (a b : List ℕ) (i : ℕ) → length a ≡ 64 * i → finished (hash_from H₀ a i) b (length (a ++ b)) ≡ sha256 (a ++ b)
unfolding finished sha256
cut_at_a_block a b i l = finished_append H₀ a b (length (a ++ b)) i l

-- the whole blocks of m, and then what is left of it
pub finished_rest : (h m : List ℕ) (n from : ℕ) → from ≡ length m - length m % 64 → finished (hash_from h m (length m / 64)) (drop from m) n ≡ finished h m n
finished_rest h m n from e =
    let i = length m / 64 in
    let l : length (take from m) ≡ 64 * i = length-take-le from m (omega arith) ∙ omega arith in
    let s = take-append-drop from m in
    ap (λ (g : List ℕ). finished g (drop from m) n) (ap (λ (p : List ℕ). hash_from h p i) (sym s) ∙ hash_from_front h (take from m) (drop from m) i (omega arith))
    ∙ finished_append h (take from m) (drop from m) n i l
    ∙ ap (λ (p : List ℕ). finished h p n) s

-- how long that end is, padded
pub rest_length : (m : List ℕ) (n from : ℕ) → from ≡ length m - length m % 64 → 64 * block_count (length m % 64) ≡ length (pad_last (drop from m) n)
rest_length m n from e =
    let l : length m % 64 ≡ length (drop from m) = sym (length-drop from m ∙ omega arith) in
    ap (λ (x : ℕ). 64 * block_count x) l ∙ sym (pad_last_length (drop from m) n)
