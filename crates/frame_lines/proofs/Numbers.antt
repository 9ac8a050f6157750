-- Numbers, ids and bytes that were written are read back; no byte below the digits stands in them.
use Rattle.std.proofs.Common.{◌≡◌, refl, ap, ap₂, sym, ◌∙◌, Bool, true, false, cond, List, [], ◌∷◌, ◌++◌, append_assoc, append-nil, ℕ, zero, suc, ◌+◌, ◌*◌, ◌/◌, ◌%◌, ◌≤◌, ◌<◌, arith, lt-ltb, le-ltb, ltb-true, ltb-false, ne_eqb, ltb, length, length-append, Option, Some, None, unwrap_or}
use borrow.Author.Tests.{lt-leb}
use Rattle.arrays.proofs.Laws.{both}
use Rattle.decimal.specs.Decimal.{digits_up_to, decimal_of}
use Rattle.hexadecimal.specs.Hex.{digit, hex_of}
use Rattle.hexadecimal.proofs.Laws.{value_digit, hex_length}
use Rattle.word_table.specs.Words.{before}
use Rattle.replay_digits.specs.Digits.{digit_of, number_from, number_in, all_digits, is_hex, pairs_of}
use Rattle.replay_values.specs.Values.{data_in}
use Rattle.replay_digits.proofs.Laws.{number_some}
use Rattle.frame_lines.specs.Lines.{joined, digit_at, hexadecimal_of, all_bytes}
use Rattle.frame_lines.proofs.Words.{Without, without_append, without_one}

-- ---- digits

pub digit_read : (n : ℕ) → n < 16 → digit_of (digit n) ≡ n
unfolding digit_of
digit_read n h = ap (λ (x : Option ℕ). unwrap_or x 16) (value_digit n h)

digit_small : (n : ℕ) → n < 10 → digit n ≡ 48 + n
unfolding digit
digit_small n h = rw (lt-ltb n 10 h)

above_by : (t : Bool) (n : ℕ) → 48 ≤ cond t (48 + n) (87 + n)
above_by true n = omega arith
above_by false n = omega arith

digit_above : (n : ℕ) → 48 ≤ digit n
unfolding digit
digit_above n = above_by (ltb n 10) n

-- one digit more behind the number v
pub digit_turn : (base most v d : ℕ) (r : List ℕ) → d < base → d < 16 → v * base + d ≤ most → number_from base most v (digit d ∷ r) ≡ number_from base most (v * base + d) r
unfolding number_from
digit_turn base most v d r h k l = rw (digit_read d k, lt-leb base d h, le-ltb most (v * base + d) l)

-- ---- decimal

decimal_by : (most k n : ℕ) (t : Bool) (r : List ℕ) → ltb n 10 ≡ t → n ≤ most
    → (10 ≤ n → (q : List ℕ) → number_from 10 most 0 (digits_up_to k (n / 10) ++ q) ≡ number_from 10 most (n / 10) q)
    → number_from 10 most 0 (cond t ((48 + n) ∷ []) (digits_up_to k (n / 10) ++ ((48 + n % 10) ∷ [])) ++ r) ≡ number_from 10 most n r
decimal_by most k n true r e h ih =
    let s = ltb-true n 10 e in
    let z : 0 * 10 + n ≡ n = omega arith in
    rw (← digit_small n s) (digit_turn 10 most 0 n r s (omega arith) (omega arith) ∙ ap (λ (v : ℕ). number_from 10 most v r) z)
decimal_by most k n false r e h ih =
    let b = ltb-false n 10 e in
    let m : n % 10 < 10 = omega arith in
    let z : n / 10 * 10 + n % 10 ≡ n = omega arith in
    rw (← digit_small (n % 10) m, append_assoc (digits_up_to k (n / 10)) (digit (n % 10) ∷ []) r)
    (ih b (digit (n % 10) ∷ r) ∙ (digit_turn 10 most (n / 10) (n % 10) r m (omega arith) (omega arith) ∙ ap (λ (v : ℕ). number_from 10 most v r) z))

decimal_from : (most k n : ℕ) (r : List ℕ) → n < k → n ≤ most → number_from 10 most 0 (digits_up_to k n ++ r) ≡ number_from 10 most n r
unfolding digits_up_to
decimal_from most zero n r h g = absurd (omega arith)
decimal_from most (suc k) n r h g = decimal_by most k n (ltb n 10) r refl g (λ b q. decimal_from most k (n / 10) q (omega arith) (omega arith))

some_by : (t : Bool) (x y : ℕ) (xs : List ℕ) → length (cond t (x ∷ []) (xs ++ (y ∷ []))) ≡ 0 → ⊥
some_by true x y xs h = omega arith
some_by false x y xs h = let l = length-append xs (y ∷ []) in omega arith

decimal_some : (n : ℕ) → length (decimal_of n) ≡ 0 → ⊥
unfolding decimal_of digits_up_to
decimal_some n h = some_by (ltb n 10) (48 + n) (48 + n % 10) (digits_up_to n (n / 10)) h

end : (base most v : ℕ) → number_from base most v [] ≡ Some v
unfolding number_from
end base most v = refl

pub decimal_read : (most n : ℕ) → n ≤ most → number_in 10 most (decimal_of n) ≡ Some n
unfolding decimal_of
decimal_read most n h =
    number_some 10 most (decimal_of n) (decimal_some n)
    ∙ (ap (number_from 10 most 0) (sym (append-nil (decimal_of n)))
    ∙ (decimal_from most (suc n) n [] (omega arith) h ∙ end 10 most n))

-- ---- hexadecimal

-- the digit for a unit, behind those for the larger ones
unit_by : (most n unit high : ℕ) (t : Bool) (r : List ℕ) → ltb n unit ≡ t → n ≤ most → (n < unit → high ≡ n / unit) → high * 16 + n / unit % 16 ≡ n / unit → n / unit ≤ n
    → number_from 16 most high (cond t [] (digit (n / unit % 16) ∷ []) ++ r) ≡ number_from 16 most (n / unit) r
unit_by most n unit high true r e h none more less = ap (λ (v : ℕ). number_from 16 most v r) (none (ltb-true n unit e))
unit_by most n unit high false r e h none more less =
    digit_turn 16 most high (n / unit % 16) r (omega arith) (omega arith) (omega arith) ∙ ap (λ (v : ℕ). number_from 16 most v r) more

unit_turn : (most n unit high : ℕ) (r : List ℕ) → n ≤ most → (n < unit → high ≡ n / unit) → high * 16 + n / unit % 16 ≡ n / unit → n / unit ≤ n
    → number_from 16 most high (digit_at n unit ++ r) ≡ number_from 16 most (n / unit) r
unfolding digit_at
unit_turn most n unit high r h none more less = unit_by most n unit high (ltb n unit) r refl h none more less

hex_from : (most n : ℕ) → n ≤ most → n < 4294967296 → number_from 16 most 0 (hexadecimal_of n) ≡ Some n
unfolding hexadecimal_of joined
hex_from most n h k =
    unit_turn most n 0x1000_0000 0 _ h (λ l. omega arith) (omega arith) (omega arith)
    ∙ (unit_turn most n 0x100_0000 (n / 0x1000_0000) _ h (λ l. omega arith) (omega arith) (omega arith)
    ∙ (unit_turn most n 0x10_0000 (n / 0x100_0000) _ h (λ l. omega arith) (omega arith) (omega arith)
    ∙ (unit_turn most n 0x1_0000 (n / 0x10_0000) _ h (λ l. omega arith) (omega arith) (omega arith)
    ∙ (unit_turn most n 0x1000 (n / 0x1_0000) _ h (λ l. omega arith) (omega arith) (omega arith)
    ∙ (unit_turn most n 0x100 (n / 0x1000) _ h (λ l. omega arith) (omega arith) (omega arith)
    ∙ (unit_turn most n 0x10 (n / 0x100) _ h (λ l. omega arith) (omega arith) (omega arith)
    ∙ (digit_turn 16 most (n / 16) (n % 16) [] (omega arith) (omega arith) (omega arith)
    ∙ (end 16 most (n / 16 * 16 + n % 16) ∙ ap Some (let z : n / 16 * 16 + n % 16 ≡ n = omega arith in z)))))))))

joined_some : (ss : List (List ℕ)) (x : ℕ) → length (joined (ss ++ ((x ∷ []) ∷ []))) ≡ 0 → ⊥
unfolding joined
joined_some [] x e = omega arith
joined_some (s ∷ ss) x e = joined_some ss x (let l = length-append s (joined (ss ++ ((x ∷ []) ∷ []))) in omega arith)

hex_some : (n : ℕ) → length (hexadecimal_of n) ≡ 0 → ⊥
unfolding hexadecimal_of
hex_some n =
    let high = digit_at n 0x1000_0000 ∷ digit_at n 0x100_0000 ∷ digit_at n 0x10_0000 ∷ digit_at n 0x1_0000 ∷ digit_at n 0x1000 ∷ digit_at n 0x100 ∷ digit_at n 0x10 ∷ [] in
    joined_some high (digit (n % 16))

pub hex_read : (most n : ℕ) → n ≤ most → n < 4294967296 → number_in 16 most (hexadecimal_of n) ≡ Some n
hex_read most n h k = number_some 16 most (hexadecimal_of n) (hex_some n) ∙ hex_from most n h k

-- ---- bytes

byte_read : (b : ℕ) → b < 256 → digit_of (digit (b / 16)) * 16 + digit_of (digit (b % 16)) ≡ b
byte_read b h = rw (digit_read (b / 16) (omega arith), digit_read (b % 16) (omega arith)) (omega arith)

digits_hex : (s : List ℕ) → all_bytes s ≡ true → all_digits (hex_of s) ≡ true
unfolding all_digits hex_of all_bytes
digits_hex [] h = refl
digits_hex (b ∷ bs) h =
    let p = both (ltb b 256) (all_bytes bs) h in
    let l = ltb-true b 256 p.0 in
    rw (digit_read (b / 16) (omega arith), digit_read (b % 16) (omega arith), le-ltb 15 (b / 16) (omega arith), le-ltb 15 (b % 16) (omega arith)) (digits_hex bs p.1)

pairs_hex : (s : List ℕ) → all_bytes s ≡ true → pairs_of (hex_of s) ≡ s
unfolding pairs_of hex_of all_bytes
pairs_hex [] h = refl
pairs_hex (b ∷ bs) h =
    let p = both (ltb b 256) (all_bytes bs) h in
    ap₂ (λ (x : ℕ) (xs : List ℕ). x ∷ xs) (byte_read b (ltb-true b 256 p.0)) (pairs_hex bs p.1)

pub data_read : (s : List ℕ) → length s ≡ 8 → all_bytes s ≡ true → data_in (hex_of s) ≡ Some s
unfolding data_in is_hex
data_read s h k =
    let l = hex_length s in
    let e : length (hex_of s) ≡ 16 = omega arith in
    rw (e, digits_hex s k, pairs_hex s k)

-- ---- what is not read

-- fewer than 16 digits are no eight bytes
pub no_data : (s : List ℕ) → (length s ≡ 16 → ⊥) → None ≡ data_in s
unfolding data_in
no_data s h = rw (ne_eqb (length s) 16 h)

-- ---- no byte below 48

module _ (b : ℕ) (low : b < 48) where
  digits_by : (t : Bool) (n k : ℕ) → Without b (digits_up_to k (n / 10)) → Without b (cond t ((48 + n) ∷ []) (digits_up_to k (n / 10) ++ ((48 + n % 10) ∷ [])))
  digits_by true n k h = without_one b (48 + n) (λ e. omega arith)
  digits_by false n k h = without_append b (digits_up_to k (n / 10)) ((48 + n % 10) ∷ []) h (without_one b (48 + n % 10) (λ e. omega arith))

  digits_free : (k n : ℕ) → Without b (digits_up_to k n)
  unfolding digits_up_to before
  digits_free zero n = refl
  digits_free (suc k) n = digits_by (ltb n 10) n k (digits_free k (n / 10))

  pub decimal_free : (n : ℕ) → Without b (decimal_of n)
  unfolding decimal_of
  decimal_free n = digits_free (suc n) n

  digit_free : (n : ℕ) → Without b (digit n ∷ [])
  digit_free n = without_one b (digit n) (λ e. let l = digit_above n in omega arith)

  unit_free_by : (t : Bool) (n : ℕ) → Without b (cond t [] (digit n ∷ []))
  unfolding before
  unit_free_by true n = refl
  unit_free_by false n = digit_free n

  unit_free : (n unit : ℕ) → Without b (digit_at n unit)
  unfolding digit_at
  unit_free n unit = unit_free_by (ltb n unit) (n / unit % 16)

  pub hex_free : (n : ℕ) → Without b (hexadecimal_of n)
  unfolding hexadecimal_of joined
  hex_free n =
      let f = unit_free n in
      without_append b _ _ (f 0x1000_0000) (without_append b _ _ (f 0x100_0000) (without_append b _ _ (f 0x10_0000) (without_append b _ _ (f 0x1_0000)
      (without_append b _ _ (f 0x1000) (without_append b _ _ (f 0x100) (without_append b _ _ (f 0x10) (digit_free (n % 16))))))))

  pub bytes_free : (s : List ℕ) → Without b (hex_of s)
  unfolding hex_of before
  bytes_free [] = refl
  bytes_free (x ∷ xs) = without_append b (digit (x / 16) ∷ []) (digit (x % 16) ∷ hex_of xs) (digit_free (x / 16)) (without_append b (digit (x % 16) ∷ []) (hex_of xs) (digit_free (x % 16)) (bytes_free xs))
