-- The bytes of a hash value, a word at a time, and the padded end of a message in an array.
use Rattle.std.proofs.Common.{◌≡◌, ℕ, ◌+◌, ◌-◌, ◌*◌, ◌/◌, ◌%◌, ◌^◌, ◌<◌, ◌≤◌, List, [], ◌∷◌, ◌++◌, length, get_or, take, drop, set, replicate, sym, refl, ap, ◌∙◌, ap₂, append_assoc, add-one, arith, length-append, take-suc}
use Rattle.std.proofs.lemmas.List.{length-replicate, replicate-append-replicate, drop-replicate}
use Rattle.std.proofs.lemmas.Slice.{take-put_mid}
use Rattle.std.specs.Int.{w64, to_be_bytes}
use borrow.Rule.Slice.PartMut.{put_mid}
use Rattle.arrays.proofs.Laws.{padded_push, put_is, put_padded}
use Rattle.arrays.specs.Arrays.{padded}
use Rattle.sha256.specs.Sha256.{k, bytes, bytes4, bytes8, pad_last, block_count}

bytes_snoc : (l : List ℕ) (x : ℕ) → bytes (l ++ x ∷ []) ≡ bytes l ++ bytes4 x
bytes_snoc [] x = refl
bytes_snoc (y ∷ l) x = ap (λ (r : List ℕ). bytes4 y ++ r) (bytes_snoc l x)

-- one word more is written
pub bytes_step : (s r b : List ℕ) (i k : ℕ) → i < length s → 4 * i ≤ length r → take (4 * i) r ≡ bytes (take i s) → b ≡ bytes4 (get_or s i 0)
    → take (4 * (i + 1)) (put_mid (4 * i) k r b) ≡ bytes (take (i + 1) s)
bytes_step s r b i k hs hr e f =
    let n : 4 * (i + 1) ≡ 4 * i + length b = rw f (omega arith) in
    take-put_mid (4 * i) k r b (4 * (i + 1)) n hr
    ∙ ap₂ (λ (x y : List ℕ). x ++ y) e f
    ∙ sym (bytes_snoc (take i s) (get_or s i 0))
    ∙ rw add-one (ap bytes (sym (take-suc s i 0 hs)))

-- ---- the end of a message, padded in an array of zeros

-- zeros after a list in an array of zeros are there already
padded_zeros : (n z : ℕ) (p : List ℕ) → length p + z ≤ n → padded n 0 p ≡ padded n 0 (p ++ replicate z 0)
unfolding padded
padded_zeros n z p l =
    let e : n - length p ≡ z + (n - length (p ++ replicate z 0)) = rw (length-append, length-replicate) (omega arith) in
    ap (λ (x : ℕ). p ++ replicate x 0) e
    ∙ ap (λ (s : List ℕ). p ++ s) (sym (replicate-append-replicate z (n - length (p ++ replicate z 0)) 0))
    ∙ sym (append_assoc p (replicate z 0) (replicate (n - length (p ++ replicate z 0)) 0))

pub four : {a b c d a' b' c' d' : ℕ} → a ≡ a' → b ≡ b' → c ≡ c' → d ≡ d' → (a ∷ b ∷ c ∷ d ∷ []) ≡ (a' ∷ b' ∷ c' ∷ d' ∷ [])
four p q r s = λ i. p i ∷ q i ∷ r i ∷ s i ∷ []

-- the number of bits modulo 2 ^ 64
bits : (n : ℕ) → to_be_bytes w64 (n * 8 % 2 ^ 64) ≡ bytes8 (8 * n)
bits n =
    ap₂ (λ (x y : List ℕ). x ++ y) (four (omega arith) (omega arith) (omega arith) (omega arith)) (four (omega arith) (omega arith) (omega arith) (omega arith))

module _ (rest : List ℕ) (n e : ℕ) (short : length rest < 64) (end : e ≡ 64 * block_count (length rest)) where
  zeros : ℕ
  zeros = k (8 * length rest) / 8

  front : List ℕ
  front = rest ++ (0x80 ∷ []) ++ replicate zeros 0

  front_length : length front ≡ e - 8
  unfolding front zeros
  front_length =
      length-append (rest ++ (0x80 ∷ [])) (replicate zeros 0)
      ∙ ap₂ ◌+◌ (length-append rest (0x80 ∷ [])) (length-replicate zeros 0)
      ∙ omega arith

  started : {x : List ℕ} → x ≡ rest → x ++ drop (length rest) (replicate 128 0) ≡ padded 128 0 rest
  unfolding padded
  started h = ap₂ (λ (x y : List ℕ). x ++ y) h (drop-replicate (length rest) 128 0)

  marked : set (padded 128 0 rest) (length rest) 0x80 ≡ padded 128 0 front
  unfolding front zeros padded
  marked =
      let fits : length (rest ++ (0x80 ∷ [])) + zeros ≤ 128 = rw length-append (omega arith) in
      padded_push 128 0 0x80 rest (omega arith) ∙ padded_zeros 128 zeros (rest ++ (0x80 ∷ [])) fits

  pub end_is : (x b : List ℕ) → x ≡ rest → b ≡ to_be_bytes w64 (n * 8 % 2 ^ 64)
      → put_mid (e - 8) (e - (e - 8)) (set (x ++ drop (length rest) (replicate 128 0)) (length rest) 0x80) b ≡ padded 128 0 (pad_last rest n)
  unfolding front zeros pad_last
  end_is x b h w =
      let at : e - 8 ≡ length front = sym front_length in
      let long : e - (e - 8) ≡ length front + length b - length front = rw (w, front_length) (omega arith) in
      let d = ap (λ (t : List ℕ). set t (length rest) 0x80) (started h) ∙ marked in
      (λ i. put_mid (at i) (long i) (d i) b)
      ∙ put_is (padded 128 0 front) (length front) b
      ∙ put_padded 128 0 front b
      ∙ ap (λ (y : List ℕ). padded 128 0 (front ++ y)) (w ∙ bits n)
