-- A line is read exactly if it is that of an entry in form.
use mathlib.Core.Bool.{false≢true}
use Rattle.std.proofs.Common.{◌≡◌, refl, ap, ap₂, sym, ◌∙◌, Bool, true, false, cond, List, [], ◌∷◌, ◌++◌, ℕ, ◌+◌, ◌*◌, ◌/◌, ◌%◌, ◌≤◌, ◌<◌, arith, lt-ltb, le-ltb, leb-true, ltb-false, eqb-true, eqb, ltb, length, take, drop, Option, Some, None}
use lib.Seq.{take_at}
use Rattle.arrays.specs.Arrays.{same_bytes}
use Rattle.arrays.proofs.Laws.{same_refl, same_bytes_is}
use Rattle.ascii.specs.Ascii.{ascii}
use Rattle.decimal.specs.Decimal.{decimal_of}
use Rattle.hexadecimal.specs.Hex.{hex_of}
use Rattle.hexadecimal.proofs.Laws.{hex_length}
use Rattle.frames.specs.Frames.{raw_of, can_id_in_range}
use Rattle.frames.specs.declared.Id.{Id}
use Rattle.frames.specs.declared.Id.TheVariants.{Standard, Extended}
use Rattle.log_entries.specs.Entries.{Entry, entry}
use Rattle.word_table.specs.Words.{before}
use Rattle.replay_digits.specs.Digits.{digit_of, number_in, all_digits, is_hex, pairs_of}
use Rattle.replay_values.specs.Values.{id_in, id_with, data_in}
use Rattle.replay_digits.proofs.Laws.{number_most, pairs_length}
use Rattle.frame_lines.specs.declared.LineEntry.{LineEntry}
use Rattle.frame_lines.specs.Lines.{joined, hexadecimal_of, kind_of, line_of, all_bytes, InForm}
use Rattle.frame_lines.specs.Guess.{line_entry, behind, rest, values_in, entry_with, entry_from, if_line, read_line}
use Rattle.frame_lines.proofs.Words.{Without, behind_word, rest_word}
use Rattle.frame_lines.proofs.Numbers.{decimal_read, decimal_free, hex_read, hex_free, data_read}

-- ---- only lines of entries are read

-- what was read of a line is what stands in it, and its line is that line
kept : (s : List ℕ) (o : Option LineEntry) (x : LineEntry) → if_line s o ≡ Some x → (o ≡ Some x) × (same_bytes (line_of (entry x.time x.frame)) s ≡ true)
kept s None x h = cc
kept s (Some e) x h = go (same_bytes (line_of (entry e.time e.frame)) s) refl
  where
    go : (t : Bool) → same_bytes (line_of (entry e.time e.frame)) s ≡ t → (Some e ≡ Some x) × (same_bytes (line_of (entry x.time x.frame)) s ≡ true)
    go true q =
        let w : Some e ≡ Some x = rw q at h in
        let z : e ≡ x = cc in
        (w, rw (← z) q)
    go false q = let w : None ≡ Some x = rw q at h in cc

-- a line that is read is the line of what was read
pub only_lines : (s : List ℕ) (x : LineEntry) → read_line s ≡ Some x → s ≡ line_of (entry x.time x.frame)
unfolding read_line
only_lines s x h = sym ((same_bytes_is (line_of (entry x.time x.frame)) s).0 (kept s (entry_from (values_in s)) x h).1)

-- ---- and what is read is in form

-- what one of the sixteen digits of the data tells
pair_small : (a b : ℕ) → a ≤ 15 → b ≤ 15 → ltb (a * 16 + b) 256 ≡ true
pair_small a b h k = lt-ltb (a * 16 + b) 256 (omega arith)

none_of : (t u : Bool) → cond t false u ≡ true → (t ≡ false) × (u ≡ true)
none_of true u h = absurd (false≢true h)
none_of false u h = (refl, h)

pairs_small : (s : List ℕ) → all_digits s ≡ true → all_bytes (pairs_of s) ≡ true
unfolding all_digits pairs_of all_bytes
pairs_small [] h = refl
pairs_small (a ∷ []) h = refl
pairs_small (a ∷ b ∷ s) h =
    let p = none_of (ltb 15 (digit_of a)) (all_digits (b ∷ s)) h in
    let q = none_of (ltb 15 (digit_of b)) (all_digits s) p.1 in
    rw (pair_small (digit_of a) (digit_of b) (ltb-false 15 (digit_of a) p.0) (ltb-false 15 (digit_of b) q.0)) (pairs_small s q.1)

-- eight bytes that were read are eight bytes
record Eight (x : List ℕ) : Type 0 where
  far : length x ≡ 8
  bytes : all_bytes x ≡ true

eight_by : (s x : List ℕ) (t u : Bool) → eqb (length s) 16 ≡ t → is_hex s ≡ u → cond (cond t u false) (Some (pairs_of s)) None ≡ Some x → Eight x
unfolding is_hex
eight_by s x true true p q h =
    let e : pairs_of s ≡ x = cc in
    let l = eqb-true (length s) 16 p in
    let k : length s / 2 ≡ 8 = omega arith in
    rw (← e) (record { far = pairs_length s ∙ k; bytes = pairs_small s (none_of (eqb (length s % 2) 1) (all_digits s) q).1 })
eight_by s x true false p q h = cc
eight_by s x false u p q h = cc

eight_read : (s x : List ℕ) → data_in s ≡ Some x → Eight x
unfolding data_in
eight_read s x h = eight_by s x (eqb (length s) 16) (is_hex s) refl refl h

form_by : (t b d : ℕ) (i : Id) (x : List ℕ) (y : LineEntry) (p q v : Bool) → t ≤ 18446744073709551615 → ltb 3 b ≡ p → ltb 8 d ≡ q → Eight x → can_id_in_range i ≡ v
    → cond p None (cond q None (cond v (Some (line_entry (entry t (record { bus = b; id = i; «data» = x; dlc = d })))) None)) ≡ Some y → InForm (entry y.time y.frame)
form_by t b d i x y false false true m hp hq g hv h =
    let e : line_entry (entry t (record { bus = b; id = i; «data» = x; dlc = d })) ≡ y = cc in
    rw (← e) (record { time = omega arith; bus = ltb-false 3 b hp; dlc = ltb-false 8 d hq; id = hv; eight = g.far; bytes = g.bytes })
form_by t b d i x y false false false m hp hq g hv h = cc
form_by t b d i x y false true v m hp hq g hv h = cc
form_by t b d i x y true q v m hp hq g hv h = cc

form_with : (t b d : Option ℕ) (i : Option Id) (x : Option (List ℕ)) (y : LineEntry) → ((n : ℕ) → t ≡ Some n → n ≤ 18446744073709551615) → ((z : List ℕ) → x ≡ Some z → Eight z)
    → entry_with t b i d x ≡ Some y → InForm (entry y.time y.frame)
form_with None b d i x y m g h = cc
form_with (Some t) None d i x y m g h = cc
form_with (Some t) (Some b) d None x y m g h = cc
form_with (Some t) (Some b) None (Some i) x y m g h = cc
form_with (Some t) (Some b) (Some d) (Some i) None y m g h = cc
form_with (Some t) (Some b) (Some d) (Some i) (Some x) y m g h = form_by t b d i x y (ltb 3 b) (ltb 8 d) (can_id_in_range i) (m t refl) refl refl (g x refl) refl h

-- what is read of a line is an entry in form
pub only_in_form : (s : List ℕ) (x : LineEntry) → read_line s ≡ Some x → InForm (entry x.time x.frame)
unfolding read_line entry_from values_in
only_in_form s x h =
    let v = values_in s in
    form_with v.time v.bus v.dlc v.id v.eight x (λ n k. number_most 10 18446744073709551615 n (behind 5 s) k)
    (λ z k. eight_read (take 16 (drop 5 (rest (rest (rest (rest (rest s))))))) z k) (kept s (entry_from v) x h).0

-- ---- each line of an entry in form is read

kind_free : (i : Id) → Without 32 (kind_of i)
unfolding before
kind_free (Standard n) = refl
kind_free (Extended n) = refl

raw_small : (i : Id) → can_id_in_range i ≡ true → raw_of i ≤ 0x1FFFFFFF
raw_small (Standard n) h = let l = leb-true n 0x7FF h in omega arith
raw_small (Extended n) h = leb-true n 0x1FFFFFFF h

id_with_lem : (i : Id) → id_with (kind_of i) (Some (raw_of i)) ≡ Some i
unfolding same_bytes
id_with_lem (Standard n) = refl
id_with_lem (Extended n) = refl

id_read : (i : Id) → can_id_in_range i ≡ true → id_in (kind_of i) (hexadecimal_of (raw_of i)) ≡ Some i
unfolding id_in
id_read i h =
    let l = raw_small i h in
    ap (id_with (kind_of i)) (hex_read 4294967295 (raw_of i) (omega arith) (omega arith)) ∙ id_with_lem i

module _ (e : Entry) (f : InForm e) where
  six : List ℕ
  six = ascii "data=" ++ (hex_of e.frame.data ++ ((10 ∷ []) ++ []))

  five : List ℕ
  five = ascii "dlc=" ++ (decimal_of e.frame.dlc ++ 32 ∷ six)

  four : List ℕ
  four = ascii "id=" ++ (hexadecimal_of (raw_of e.frame.id) ++ 32 ∷ five)

  three : List ℕ
  three = ascii "kind=" ++ (kind_of e.frame.id ++ 32 ∷ four)

  two : List ℕ
  two = ascii "bus=" ++ (decimal_of e.frame.bus ++ 32 ∷ three)

  line_is : line_of e ≡ ascii "time=" ++ (decimal_of e.time ++ 32 ∷ two)
  unfolding line_of joined six five four three two
  line_is = refl

  time_key : Without 32 (ascii "time=")
  unfolding before
  time_key = refl

  bus_key : Without 32 (ascii "bus=")
  unfolding before
  bus_key = refl

  kind_key : Without 32 (ascii "kind=")
  unfolding before
  kind_key = refl

  id_key : Without 32 (ascii "id=")
  unfolding before
  id_key = refl

  dlc_key : Without 32 (ascii "dlc=")
  unfolding before
  dlc_key = refl

  low : 32 < 48
  low = omega arith

  rest_one : rest (line_of e) ≡ two
  rest_one = ap rest line_is ∙ rest_word (ascii "time=") (decimal_of e.time) two time_key (decimal_free 32 low e.time)

  rest_two : rest (rest (line_of e)) ≡ three
  unfolding two
  rest_two = ap rest rest_one ∙ rest_word (ascii "bus=") (decimal_of e.frame.bus) three bus_key (decimal_free 32 low e.frame.bus)

  rest_three : rest (rest (rest (line_of e))) ≡ four
  unfolding three
  rest_three = ap rest rest_two ∙ rest_word (ascii "kind=") (kind_of e.frame.id) four kind_key (kind_free e.frame.id)

  rest_four : rest (rest (rest (rest (line_of e)))) ≡ five
  unfolding four
  rest_four = ap rest rest_three ∙ rest_word (ascii "id=") (hexadecimal_of (raw_of e.frame.id)) five id_key (hex_free 32 low (raw_of e.frame.id))

  rest_five : rest (rest (rest (rest (rest (line_of e))))) ≡ six
  unfolding five
  rest_five = ap rest rest_four ∙ rest_word (ascii "dlc=") (decimal_of e.frame.dlc) six dlc_key (decimal_free 32 low e.frame.dlc)

  time_behind : behind 5 (line_of e) ≡ decimal_of e.time
  time_behind = ap (behind 5) line_is ∙ behind_word (ascii "time=") (decimal_of e.time) two time_key (decimal_free 32 low e.time)

  bus_behind : behind 4 (rest (line_of e)) ≡ decimal_of e.frame.bus
  unfolding two
  bus_behind = ap (behind 4) rest_one ∙ behind_word (ascii "bus=") (decimal_of e.frame.bus) three bus_key (decimal_free 32 low e.frame.bus)

  kind_behind : behind 5 (rest (rest (line_of e))) ≡ kind_of e.frame.id
  unfolding three
  kind_behind = ap (behind 5) rest_two ∙ behind_word (ascii "kind=") (kind_of e.frame.id) four kind_key (kind_free e.frame.id)

  id_behind : behind 3 (rest (rest (rest (line_of e)))) ≡ hexadecimal_of (raw_of e.frame.id)
  unfolding four
  id_behind = ap (behind 3) rest_three ∙ behind_word (ascii "id=") (hexadecimal_of (raw_of e.frame.id)) five id_key (hex_free 32 low (raw_of e.frame.id))

  dlc_behind : behind 4 (rest (rest (rest (rest (line_of e))))) ≡ decimal_of e.frame.dlc
  unfolding five
  dlc_behind = ap (behind 4) rest_four ∙ behind_word (ascii "dlc=") (decimal_of e.frame.dlc) six dlc_key (decimal_free 32 low e.frame.dlc)

  data_behind : take 16 (drop 5 (rest (rest (rest (rest (rest (line_of e))))))) ≡ hex_of e.frame.data
  unfolding six
  data_behind =
      let l = hex_length e.frame.data in
      let n = f.eight in
      ap (λ (s : List ℕ). take 16 (drop 5 s)) rest_five ∙ take_at (hex_of e.frame.data) ((10 ∷ []) ++ []) 16 (omega arith)

  time_is : number_in 10 18446744073709551615 (behind 5 (line_of e)) ≡ Some e.time
  time_is = let h = f.time in ap (number_in 10 18446744073709551615) time_behind ∙ decimal_read 18446744073709551615 e.time (omega arith)

  bus_is : number_in 10 18446744073709551615 (behind 4 (rest (line_of e))) ≡ Some e.frame.bus
  bus_is = let h = f.bus in ap (number_in 10 18446744073709551615) bus_behind ∙ decimal_read 18446744073709551615 e.frame.bus (omega arith)

  id_is : id_in (behind 5 (rest (rest (line_of e)))) (behind 3 (rest (rest (rest (line_of e))))) ≡ Some e.frame.id
  id_is = ap₂ id_in kind_behind id_behind ∙ id_read e.frame.id f.id

  dlc_is : number_in 10 18446744073709551615 (behind 4 (rest (rest (rest (rest (line_of e)))))) ≡ Some e.frame.dlc
  dlc_is = let h = f.dlc in ap (number_in 10 18446744073709551615) dlc_behind ∙ decimal_read 18446744073709551615 e.frame.dlc (omega arith)

  data_is : data_in (take 16 (drop 5 (rest (rest (rest (rest (rest (line_of e)))))))) ≡ Some e.frame.data
  data_is = ap data_in data_behind ∙ data_read e.frame.data f.eight f.bytes

  values_are : values_in (line_of e) ≡ record { time = Some e.time; bus = Some e.frame.bus; id = Some e.frame.id; dlc = Some e.frame.dlc; eight = Some e.frame.data }
  unfolding values_in
  values_are = λ j. record { time = time_is j; bus = bus_is j; id = id_is j; dlc = dlc_is j; eight = data_is j }

  -- the line of an entry in form is read as that entry
  pub every_line : read_line (line_of e) ≡ Some (line_entry e)
  unfolding read_line entry_from
  every_line = rw (values_are, le-ltb 3 e.frame.bus f.bus, le-ltb 8 e.frame.dlc f.dlc, f.id, same_refl (line_of e))
