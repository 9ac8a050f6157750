-- The room that each kind of text takes.
use Rattle.std.proofs.Common.{refl, ◌∙◌, Bool, true, false, cond, List, [], ◌∷◌, ℕ, ◌+◌, ◌*◌, ◌/◌, ◌%◌, ◌^◌, ◌≤◌, ◌<◌, arith, le-ltb, eqb, ltb, lit≤, length, take, length-take}
use Rattle.arrays.proofs.Laws.{put_length}
use Rattle.ascii.specs.Ascii.{ascii}
use Rattle.decimal.specs.Decimal.{decimal_of}
use Rattle.hexadecimal.specs.Hex.{digit, hex_of}
use Rattle.hexadecimal.proofs.Laws.{hex_length}
use Rattle.replay_page.specs.Page.{Page, text, number, bytes, yes_no, comma, item, flag, word, known, digits, digit_from, hexadecimal}
use Rattle.replay_page.specs.Room.{Within}
use Rattle.replay_page.proofs.Laws.{digits_fit}

-- ---- one thing behind the other, or one of two

infixl 20 ◌⊕◌
pub ◌⊕◌ : {a b : ℕ} {f g : Page → Page} → Within a f → Within b g → Within (a + b) (λ (p : Page). g (f p))
◌⊕◌ {a} {b} {f} {g} u v = record {
  fits = λ p r.
      let x = u.fits p (omega arith) in
      let y = v.fits (f p) (omega arith) in
      (omega arith, y.1 ∙ x.1);
}

pub upto : {m : ℕ} {f : Page → Page} (n : ℕ) → m ≤ n → Within m f → Within n f
upto n h u = record { fits = λ p r. let x = u.fits p (omega arith) in (omega arith, x.1) }

pub either : {n : ℕ} {f g : Page → Page} (t : Bool) → Within n f → Within n g → Within n (λ (p : Page). cond t (f p) (g p))
either true u v = u
either false u v = v

pub same : (n : ℕ) → Within n (λ (p : Page). p)
same n = record { fits = λ p r. (omega arith, refl) }

-- ---- the kinds of fields

pub text_in : (s : List ℕ) → Within (length s) (text s)
unfolding text
text_in s = record {
  fits = λ p r. rw (le-ltb (length p.memory) p.place (omega arith), le-ltb (length p.memory) (p.place + length s) r) (omega arith, put_length p.memory p.place s r);
}

pub number_in_lem : (n : ℕ) → n < 2 ^ 64 → Within 20 (number n)
number_in_lem n h = upto 20 (digits_fit n h) (text_in (decimal_of n))

pub bytes_in_lem : (s : List ℕ) (k : ℕ) → length s ≤ k → Within (2 * k) (bytes s)
bytes_in_lem s k h = upto (2 * k) (omega (arith, hex_length s)) (text_in (hex_of s))

pub yes_no_in : (b : Bool) → Within 3 (yes_no b)
unfolding yes_no
yes_no_in b = either b (text_in (ascii "yes")) (upto 3 (lit≤ tt) (text_in (ascii "no")))

pub comma_in : (i : ℕ) → Within 1 (comma i)
unfolding comma
comma_in i = either (eqb i 0) (same 1) (text_in (ascii ","))

pub item_in : (key : List ℕ) (n : ℕ) → n < 2 ^ 64 → Within (length key + 20) (item key n)
unfolding item
item_in key n h = text_in key ⊕ number_in_lem n h

pub flag_in_lem : (key : List ℕ) (b : Bool) → Within (length key + 3) (flag key b)
unfolding flag
flag_in_lem key b = text_in key ⊕ yes_no_in b

pub word_in : (key w : List ℕ) (k : ℕ) → length w ≤ k → Within (length key + k) (word key w)
unfolding word
word_in key w k h = text_in key ⊕ upto k h (text_in w)

pub known_in : (b : Bool) (s : List ℕ) → length s ≤ 32 → Within 64 (known b s)
unfolding known
known_in b s h = either b (bytes_in_lem s 32 h) (upto 64 (lit≤ tt) (text_in (ascii "none")))

pub first_in : (s : List ℕ) (n k : ℕ) → length s ≤ k → length (take n s) ≤ k
first_in s n k h = omega (arith, length-take n s)

-- the first n of k bytes
pub part_in : (s : List ℕ) (n k : ℕ) → length s ≤ k → Within (2 * k) (bytes (take n s))
part_in s n k h = bytes_in_lem (take n s) k (first_in s n k h)

pub digits_in : (code : List ℕ) (n : ℕ) → length code ≤ 9 → Within 18 (digits code n)
unfolding digits
digits_in code n h = either (eqb n 0) (upto 18 (lit≤ tt) (text_in (ascii "-"))) (part_in code n 9 h)

digit_in : (n unit : ℕ) → Within 1 (digit_from n unit)
unfolding digit_from
digit_in n unit = either (ltb n unit) (same 1) (text_in (digit (n / unit % 16) ∷ []))

pub hexadecimal_in : (n : ℕ) → Within 8 (hexadecimal n)
unfolding hexadecimal
hexadecimal_in n =
    digit_in n 0x1000_0000 ⊕ digit_in n 0x100_0000 ⊕ digit_in n 0x10_0000 ⊕ digit_in n 0x1_0000
    ⊕ digit_in n 0x1000 ⊕ digit_in n 0x100 ⊕ digit_in n 0x10 ⊕ text_in (digit (n % 16) ∷ [])
