-- A message taken in piece by piece has the digest of the whole, wherever it was cut.
use Rattle.std.proofs.Common.{◌≡◌, ℕ, ◌+◌, ◌-◌, ◌*◌, ◌/◌, ◌<◌, List, ◌++◌, length, take, drop, sym, ap, ◌∙◌, append_assoc, zero-add, arith, length-append, length-drop, take-append-drop, length-take-le}
use Rattle.std.proofs.Math.Seq.{drop-append-add}
use Rattle.sha256.specs.Sha256.{H₀, hash_from, finished, sha256}
use Rattle.sha256.specs.Pieces.{Progress, opened, absorbed, closed, TwoPieces, CutAnywhere}
use Rattle.sha256.proofs.Pieces.{hash_from_front, hash_from_append, finished_rest}

-- fewer than 64 bytes are not yet in a block
pub rest_short : (o : Progress) (a : List ℕ) → length (absorbed o a).rest < 64
unfolding absorbed
rest_short o a = let s = o.rest ++ a in omega (arith, length-drop (64 * (length s / 64)) s)

-- how many blocks there are before the cut, and behind it
blocks_add : (n m r : ℕ) → r ≡ n - 64 * (n / 64) → n / 64 + (r + m) / 64 ≡ (n + m) / 64
blocks_add n m r e = omega arith

-- the whole blocks of s, and those of what is left of s and of b, are those of s and b together
module _ (h s b : List ℕ) where
  i : ℕ
  i = length s / 64

  front : List ℕ
  front = take (64 * i) s

  left : List ℕ
  left = drop (64 * i) s ++ b

  whole : front ++ left ≡ s ++ b
  unfolding front left i
  whole = sym (append_assoc front (drop (64 * i) s) b) ∙ ap (λ (x : List ℕ). x ++ b) (take-append-drop (64 * i) s)

  front_length : length front ≡ 64 * i
  unfolding front i
  front_length = length-take-le (64 * i) s (omega arith)

  count : i + length left / 64 ≡ length (s ++ b) / 64
  unfolding left i
  count =
      ap (λ (x : ℕ). i + x / 64) (length-append (drop (64 * i) s) b)
      ∙ blocks_add (length s) (length b) (length (drop (64 * i) s)) (length-drop (64 * i) s)
      ∙ ap (λ (x : ℕ). x / 64) (sym (length-append s b))

  pub value_twice : hash_from (hash_from h s (length s / 64)) (drop (64 * (length s / 64)) s ++ b) (length (drop (64 * (length s / 64)) s ++ b) / 64)
      ≡ hash_from h (s ++ b) (length (s ++ b) / 64)
  unfolding front left i
  value_twice =
      ap (λ (g : List ℕ). hash_from g left (length left / 64))
      (ap (λ (p : List ℕ). hash_from h p i) (sym (take-append-drop (64 * i) s)) ∙ hash_from_front h front (drop (64 * i) s) i (omega (arith, front_length)))
      ∙ hash_from_append h front left i (length left / 64) front_length
      ∙ (λ j. hash_from h (whole j) (count j))

  pub rest_twice : drop (64 * (length (drop (64 * (length s / 64)) s ++ b) / 64)) (drop (64 * (length s / 64)) s ++ b)
      ≡ drop (64 * (length (s ++ b) / 64)) (s ++ b)
  unfolding front left i
  rest_twice =
      let n : length front + 64 * (length left / 64) ≡ 64 * (length (s ++ b) / 64) = omega (arith, front_length, count) in
      sym (drop-append-add front left (64 * (length left / 64))) ∙ (λ j. drop (n j) (whole j))

-- two pieces leave what the two together leave
pub absorbed_twice : (o : Progress) (a b : List ℕ) → absorbed (absorbed o a) b ≡ absorbed o (a ++ b)
unfolding absorbed
absorbed_twice o a b =
    let s = o.rest ++ a in
    let e : s ++ b ≡ o.rest ++ (a ++ b) = append_assoc o.rest a b in
    let v = value_twice o.value s b ∙ ap (λ (x : List ℕ). hash_from o.value x (length x / 64)) e in
    let r = rest_twice o.value s b ∙ ap (λ (x : List ℕ). drop (64 * (length x / 64)) x) e in
    let n : o.total + length a + length b ≡ o.total + length (a ++ b) = omega (arith, length-append a b) in
    λ j. record { value = v j; rest = r j; total = n j }

-- the digest after a piece, from the hash value and the rest before it
pub closed_absorbed : (o : Progress) (b : List ℕ) → closed (absorbed o b) ≡ finished o.value (o.rest ++ b) (o.total + length b)
unfolding absorbed closed
closed_absorbed o b =
    let s = o.rest ++ b in
    finished_rest o.value s (o.total + length b) (64 * (length s / 64)) (omega arith)

pub two_pieces : TwoPieces
unfolding opened sha256 finished
two_pieces a b =
    ap closed (absorbed_twice opened a b)
    ∙ closed_absorbed opened (a ++ b)
    ∙ ap (λ (n : ℕ). finished H₀ (a ++ b) n) (zero-add (length (a ++ b)))

pub cut_anywhere : CutAnywhere
cut_anywhere m i short within = two_pieces (take i m) (drop i m) ∙ ap sha256 (take-append-drop i m)
