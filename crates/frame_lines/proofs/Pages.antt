-- Texts laid down one behind the other, from the front of a page.
use Rattle.std.proofs.Common.{◌≡◌, refl, ap, sym, ◌∙◌, Bool, true, false, cond, List, [], ◌∷◌, ◌++◌, append_assoc, append-nil, ℕ, ◌+◌, ◌/◌, ◌%◌, ◌≤◌, ◌<◌, add-zero, arith, le-ltb, ltb, length, take, drop, length-append, length-take, take-append-drop}
use Rattle.arrays.specs.Arrays.{put}
use Rattle.arrays.proofs.Laws.{put_take, put_length}
use Rattle.decimal.proofs.Laws.{decimal_length}
use Rattle.hexadecimal.specs.Hex.{digit}
use Rattle.hexadecimal.proofs.Laws.{hex_length}
use Rattle.frames.specs.Frames.{raw_of}
use Rattle.frames.specs.declared.Id.{Id}
use Rattle.frames.specs.declared.Id.TheVariants.{Standard, Extended}
use Rattle.replay_page.specs.Page.{Page, page, text, digit_from, hexadecimal}
use Rattle.log_entries.specs.Entries.{Entry}
use Rattle.frame_lines.specs.Lines.{joined, digit_at, hex_digits, hexadecimal_of, kind_of, line_of}
use Rattle.frame_lines.specs.Walk.{Laid, lay, front, back}

-- nothing laid down leaves the page
nil_by : (t : Bool) (p q r : Page) → r ≡ p → cond t p (cond t q r) ≡ p
nil_by true p q r e = refl
nil_by false p q r e = e

text_nil : (p : Page) → text [] p ≡ p
unfolding text put
text_nil p =
    let m = p.memory in
    let e : ◌≡◌ {A = Page} (page (take p.place m ++ [] ++ drop p.place m) p.place) p = rw (append-nil, take-append-drop) in
    rw (add-zero p.place) (nil_by (ltb (length m) p.place) p (page m (length m + 1)) _ e)

-- one text more
pub laid_text : (n : ℕ) (p : Page) (t s : List ℕ) → Laid n p t → length t + length s ≤ n → Laid n (text s p) (t ++ s)
unfolding text
laid_text n p t s h k =
    let m = p.memory in
    let r = h.room in
    let q = h.place in
    let fits : p.place + length s ≤ length m = omega arith in
    let l = length-append t s in
    let e : length (t ++ s) ≡ p.place + length s = omega arith in
    let f : take p.place m ≡ t = ap (λ (k : ℕ). take k m) q ∙ h.front in
    rw (le-ltb (length m) p.place (omega arith), le-ltb (length m) (p.place + length s) fits) (record {
      room = put_length m p.place s fits ∙ r;
      place = sym e;
      front = ap (λ (k : ℕ). take k (put m p.place s)) e ∙ (put_take m p.place s fits ∙ ap (λ (x : List ℕ). x ++ s) f);
    })

-- the text lies inside the page, and is read from its front
pub laid_inside : (n : ℕ) (p : Page) (t : List ℕ) → Laid n p t → p.place ≤ n
laid_inside n p t h =
    let l = length-take (length t) p.memory in
    let e : length (take (length t) p.memory) ≡ length t = ap length h.front in
    let r = h.room in
    let q = h.place in
    omega arith

pub laid_read : (n : ℕ) (p : Page) (t : List ℕ) → Laid n p t → take p.place p.memory ≡ t
laid_read n p t h = ap (λ (k : ℕ). take k p.memory) h.place ∙ h.front

pub laid_all : (n : ℕ) (ss : List (List ℕ)) (p : Page) (t : List ℕ) → Laid n p t → length t + length (joined ss) ≤ n → Laid n (lay ss p) (t ++ joined ss)
unfolding lay joined
laid_all n [] p t h k = rw (append-nil t) h
laid_all n (s ∷ ss) p t h k =
    let l = length-append s (joined ss) in
    let m = length-append t s in
    rw (← append_assoc t s (joined ss)) (laid_all n ss (text s p) (t ++ s) (laid_text n p t s h (omega arith)) (omega arith))

-- ---- a number in hexadecimal

digit_by : (t : Bool) (d : ℕ) (p : Page) → cond t p (text (d ∷ []) p) ≡ text (cond t [] (d ∷ [])) p
digit_by true d p = sym (text_nil p)
digit_by false d p = refl

digit_text : (n unit : ℕ) (p : Page) → digit_from n unit p ≡ text (digit_at n unit) p
unfolding digit_from digit_at
digit_text n unit p = digit_by (ltb n unit) (digit (n / unit % 16)) p

hex_lay : (n : ℕ) (p : Page) → hexadecimal n p ≡ lay (hex_digits n) p
unfolding hexadecimal lay
hex_lay n p = simp digit_text

one_by : (t : Bool) (d : ℕ) → length (cond t [] (d ∷ [])) ≤ 1
one_by true d = omega arith
one_by false d = omega arith

digit_short : (n unit : ℕ) → length (digit_at n unit) ≤ 1
unfolding digit_at
digit_short n unit = one_by (ltb n unit) (digit (n / unit % 16))

pub hex_short : (n : ℕ) → length (hexadecimal_of n) ≤ 8
unfolding hexadecimal_of joined
hex_short n =
    let a = digit_short n 0x1000_0000 in
    let b = digit_short n 0x100_0000 in
    let c = digit_short n 0x10_0000 in
    let d = digit_short n 0x1_0000 in
    let e = digit_short n 0x1000 in
    let f = digit_short n 0x100 in
    let g = digit_short n 0x10 in
    simp length-append (omega arith)

laid_hex : (m : ℕ) (p : Page) (t : List ℕ) (n : ℕ) → Laid m p t → length t + 8 ≤ m → Laid m (hexadecimal n p) (t ++ hexadecimal_of n)
unfolding hexadecimal_of
laid_hex m p t n h k =
    let s = hex_short n in
    rw (hex_lay n p) (laid_all m (hex_digits n) p t h (omega arith))

-- ---- a line

pub kind_length : (i : Id) → length (kind_of i) ≡ 3
kind_length (Standard n) = refl
kind_length (Extended n) = refl

pub joined_append : (xs ys : List (List ℕ)) → joined xs ++ joined ys ≡ joined (xs ++ ys)
unfolding joined
joined_append [] ys = refl
joined_append (x ∷ xs) ys = append_assoc x (joined xs) (joined ys) ∙ ap (λ (s : List ℕ). x ++ s) (joined_append xs ys)

module _ (p : Page) (e : Entry) (clean : Laid 85 p []) (time : e.time < 18446744073709551616) (bus : e.frame.bus < 256) (dlc : e.frame.dlc < 256) (eight : length e.frame.data ≡ 8) where
  front_short : length (joined (front e)) ≤ 46
  unfolding joined
  front_short =
      let a = decimal_length 19 e.time (omega arith) in
      let b = decimal_length 2 e.frame.bus (omega arith) in
      let c = kind_length e.frame.id in
      simp length-append (omega arith)

  back_short : length (joined (back e.frame)) ≤ 31
  unfolding joined
  back_short =
      let a = decimal_length 2 e.frame.dlc (omega arith) in
      let b = hex_length e.frame.data in
      simp length-append (omega arith)

  whole : joined (front e) ++ hexadecimal_of (raw_of e.frame.id) ++ joined (back e.frame) ≡ line_of e
  unfolding line_of joined
  whole = append_assoc (joined (front e)) (hexadecimal_of (raw_of e.frame.id)) (joined (back e.frame)) ∙ joined_append (front e) (hexadecimal_of (raw_of e.frame.id) ∷ back e.frame)

  -- what the code lays down is the line of the entry
  pub line_laid : Laid 85 (lay (back e.frame) (hexadecimal (raw_of e.frame.id) (lay (front e) p))) (line_of e)
  line_laid =
      let a = front_short in
      let b = back_short in
      let c = hex_short (raw_of e.frame.id) in
      let l = length-append (joined (front e)) (hexadecimal_of (raw_of e.frame.id)) in
      let one = laid_all 85 (front e) p [] clean (omega arith) in
      let two = laid_hex 85 (lay (front e) p) (joined (front e)) (raw_of e.frame.id) one (omega arith) in
      rw (← whole) (laid_all 85 (back e.frame) (hexadecimal (raw_of e.frame.id) (lay (front e) p)) (joined (front e) ++ hexadecimal_of (raw_of e.frame.id)) two (omega arith))
