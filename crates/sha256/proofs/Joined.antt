-- How two pieces are taken in: what is left of the first and the front of the second in one block, and then the rest.
use Rattle.std.proofs.Common.{◌≡◌, ℕ, ◌+◌, ◌-◌, ◌*◌, ◌/◌, ◌%◌, ◌^◌, ◌≤◌, List, [], ◌∷◌, ◌++◌, length, take, drop, replicate, sym, ap, ◌∙◌, ap₂, append_assoc, append-nil, le_of_eq, arith, length-append, length-drop, take-append-drop, length-take-le, take_all}
use Rattle.std.proofs.lemmas.List.{drop-replicate}
use borrow.Rule.Slice.PartMut.{put_mid}
use Rattle.arrays.proofs.Laws.{padded_take, put_is, put_padded}
use Rattle.arrays.specs.Arrays.{padded}
use Rattle.sha256.specs.Sha256.{H₀, k, hash_from, finished, pad_last, bytes, bytes4, bytes8}
use Rattle.sha256.specs.Pieces.{opened, absorbed, closed}
use Rattle.sha256.proofs.CutAnywhere.{closed_absorbed}
use Rattle.sha256.proofs.Padding.{four}
use Rattle.sha256.proofs.Pieces.{finished_append}

-- a length is taken modulo 2 ^ 64 bits, so its sum may be taken modulo 2 ^ 64 bytes
high_wraps : (n : ℕ) → bytes4 (8 * (n % 2 ^ 64) / 2 ^ 32) ≡ bytes4 (8 * n / 2 ^ 32)
high_wraps n = four (omega arith) (omega arith) (omega arith) (omega arith)

low_wraps : (n : ℕ) → bytes4 (8 * (n % 2 ^ 64)) ≡ bytes4 (8 * n)
low_wraps n = four (omega arith) (omega arith) (omega arith) (omega arith)

finished_wraps : (h m : List ℕ) (n : ℕ) → finished h m (n % 2 ^ 64) ≡ finished h m n
unfolding finished pad_last
finished_wraps h m n =
    let e : bytes8 (8 * (n % 2 ^ 64)) ≡ bytes8 (8 * n) = ap₂ (λ (x y : List ℕ). x ++ y) (high_wraps n) (low_wraps n) in
    ap (λ (s : List ℕ). let p = m ++ (0x80 ∷ []) ++ replicate (k (8 * length m) / 8) 0 ++ s in bytes (hash_from h p (length p / 64))) e

padded_full : (n : ℕ) (p : List ℕ) → length p ≡ n → padded n 0 p ≡ p
unfolding padded
padded_full n p e =
    let z : n - length p ≡ 0 = omega arith in
    ap (λ (x : ℕ). p ++ replicate x 0) z ∙ append-nil p

-- n bytes of a are left when its whole blocks are hashed
module _ (a : List ℕ) where
  n : ℕ
  n = length a % 64

  from : ℕ
  from = length a - n

  left : List ℕ
  left = drop from a

  left_length : length left ≡ n
  unfolding left from n
  left_length = length-drop from a ∙ omega arith

  joined : (b : List ℕ) (total : ℕ) {h : List ℕ} → total ≡ (length a + length b) % 2 ^ 64 → h ≡ hash_from H₀ a (length a / 64)
      → closed (absorbed (absorbed opened a) b) ≡ finished h (left ++ b) total
  unfolding left from n opened absorbed
  joined b total {h} sum e =
      let f : 64 * (length a / 64) ≡ from = omega arith in
      let g : 0 + length a + length b ≡ length a + length b = omega arith in
      closed_absorbed (absorbed opened a) b
      ∙ (λ i. finished (sym e i) (drop (f i) a ++ b) (g i))
      ∙ sym (finished_wraps h (left ++ b) (length a + length b))
      ∙ ap (finished h (left ++ b)) (sym sum)

  -- they are laid down in a block of zeros
  laid : {x : List ℕ} → x ≡ take (length a - from) left → x ++ drop n (replicate 64 0) ≡ padded 64 0 left
  unfolding left from n padded
  laid e =
      let all : take (length a - from) left ≡ left = take_all (length a - from) left (le_of_eq (length-drop from a)) in
      ap₂ (λ (p q : List ℕ). p ++ q) (e ∙ all) (drop-replicate n 64 0 ∙ ap (λ (m : ℕ). replicate (64 - m) 0) (sym left_length))

  -- and c behind them
  behind : {x y : List ℕ} (c : List ℕ) → x ≡ take (length a - from) left → y ≡ c → put_mid n (n + length c - n) (x ++ drop n (replicate 64 0)) y ≡ padded 64 0 (left ++ c)
  unfolding left from n padded
  behind c e f =
      let at = sym left_length in
      (λ i. put_mid (at i) (at i + length c - at i) (laid e i) (f i)) ∙ put_is (padded 64 0 left) (length left) c ∙ put_padded 64 0 left c

  -- the second piece ends in that block
  pub ends_in_block : (b : List ℕ) (total : ℕ) {h x y d : List ℕ} → total ≡ (length a + length b) % 2 ^ 64 → h ≡ hash_from H₀ a (length a / 64)
      → x ≡ take (length a - (length a - length a % 64)) (drop (length a - length a % 64) a) → y ≡ b
      → d ≡ finished h (take (length a % 64 + length b) (put_mid (length a % 64) (length a % 64 + length b - length a % 64) (x ++ drop (length a % 64) (replicate 64 0)) y)) total
      → d ≡ closed (absorbed (absorbed opened a) b)
  unfolding left from n
  ends_in_block b total {h} sum e f g r =
      let l : length a % 64 + length b ≡ length (left ++ b) = sym (length-append left b ∙ ap (λ (x : ℕ). x + length b) left_length) in
      r
      ∙ ap (λ (s : List ℕ). finished h s total) (ap₂ take l (behind b f g) ∙ padded_take 64 0 (left ++ b))
      ∙ sym (joined b total sum e)

  -- the second piece fills the block, and goes on behind it
  pub fills_block : (b : List ℕ) (total room : ℕ) {h x y u g d : List ℕ} → room ≡ 64 - length a % 64 → room ≤ length b
      → total ≡ (length a + length b) % 2 ^ 64 → h ≡ hash_from H₀ a (length a / 64)
      → x ≡ take (length a - (length a - length a % 64)) (drop (length a - length a % 64) a) → y ≡ take room b
      → u ≡ put_mid (length a % 64) (64 - length a % 64) (x ++ drop (length a % 64) (replicate 64 0)) y → g ≡ hash_from h u (length u / 64)
      → d ≡ finished g (take (length b - room) (drop room b)) total → d ≡ closed (absorbed (absorbed opened a) b)
  unfolding left from n
  fills_block b total room {h} {x} {y} q fits sum e f p w s r =
      let c = take room b in
      let long : length (left ++ c) ≡ 64 = length-append left c ∙ ap₂ ◌+◌ left_length (length-take-le room b fits) ∙ omega arith in
      let k : 64 - length a % 64 ≡ length a % 64 + length c - length a % 64 = omega (arith, length-take-le room b fits) in
      let block =
      w ∙ ap (λ (m : ℕ). put_mid (length a % 64) m (x ++ drop (length a % 64) (replicate 64 0)) y) k ∙ behind c f p ∙ padded_full 64 (left ++ c) long in
      let one : length (left ++ c) / 64 ≡ 1 = omega arith in
      let all : take (length b - room) (drop room b) ≡ drop room b = take_all (length b - room) (drop room b) (le_of_eq (length-drop room b)) in
      let first = s ∙ ap (λ (x : List ℕ). hash_from h x (length x / 64)) block ∙ ap (hash_from h (left ++ c)) one in
      r
      ∙ ap₂ (λ (x y : List ℕ). finished x y total) first all
      ∙ finished_append h (left ++ c) (drop room b) total 1 long
      ∙ ap (λ (x : List ℕ). finished h x total) (append_assoc left c (drop room b) ∙ ap (λ (x : List ℕ). left ++ x) (take-append-drop room b))
      ∙ sym (joined b total sum e)
