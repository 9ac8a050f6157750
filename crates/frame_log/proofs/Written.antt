-- A log that is written line by line from entries in form, at most 512 of them and with times that never fall, is read as these.
use Rattle.std.proofs.Common.{◌≡◌, refl, ap, sym, ◌∙◌, Bool, true, false, cond, List, [], ◌∷◌, ◌++◌, map, append_assoc, ℕ, suc, ◌+◌, ◌≤◌, ◌<◌, arith, lt-ltb, le-ltb, eqb, length, Ok}
use Rattle.ascii.specs.Ascii.{ascii}
use Rattle.decimal.specs.Decimal.{decimal_of}
use Rattle.hexadecimal.specs.Hex.{hex_of}
use Rattle.frames.specs.Frames.{raw_of}
use Rattle.frames.specs.declared.Id.{Id}
use Rattle.frames.specs.declared.Id.TheVariants.{Standard, Extended}
use Rattle.log_entries.specs.Entries.{Entry}
use Rattle.matcher.proofs.Times.{Rising}
use Rattle.word_table.specs.Words.{before, onto}
use Rattle.frame_lines.specs.Lines.{joined, hexadecimal_of, kind_of, line_of, InForm}
use Rattle.frame_log.specs.Logs.{lines_of, read_from, reading}
use Rattle.frame_lines.proofs.Pages.{joined_append}
use Rattle.frame_lines.proofs.Words.{Without, without_append}
use Rattle.frame_lines.proofs.Numbers.{decimal_free, hex_free, bytes_free}
use Rattle.frame_lines.proofs.Theorems.{every_line}

-- ---- the first line of a text

first_by : (t : Bool) (x n m : ℕ) (ls : List (List ℕ)) (l : List ℕ) (r : List (List ℕ)) → cond t 0 (suc n) ≡ suc m → (n ≡ m → ls ≡ l ∷ r)
    → cond t ((10 ∷ []) ∷ ls) (onto x ls) ≡ (x ∷ l) ∷ r
first_by true x n m ls l r h ih = absurd (omega arith)
first_by false x n m ls l r h ih = ap (onto x) (ih (omega arith))

-- a text without byte 10 in it, then byte 10
first_line : (b r : List ℕ) → Without 10 b → lines_of (b ++ 10 ∷ r) ≡ (b ++ (10 ∷ [])) ∷ lines_of r
unfolding lines_of before
first_line [] r h = refl
first_line (x ∷ b) r h = first_by (eqb x 10) x (before 10 b) (length b) (lines_of (b ++ 10 ∷ r)) (b ++ (10 ∷ [])) (lines_of r) h (first_line b r)

-- ---- a line has one byte 10, at its end

abbrev body : Entry → List (List ℕ)
body e =
    ascii "time=" ∷ decimal_of e.time ∷ ascii " bus=" ∷ decimal_of e.frame.bus ∷ ascii " kind=" ∷ kind_of e.frame.id
    ∷ ascii " id=" ∷ hexadecimal_of (raw_of e.frame.id) ∷ ascii " dlc=" ∷ decimal_of e.frame.dlc ∷ ascii " data=" ∷ hex_of e.frame.data ∷ []

kind_free : (i : Id) → Without 10 (kind_of i)
unfolding before
kind_free (Standard n) = refl
kind_free (Extended n) = refl

low : 10 < 48
low = omega arith

-- no b stands in any of some texts
unfoldable Free : ℕ → List (List ℕ) → Type 0
Free b [] = Unit {0}
Free b (s ∷ ss) = Without b s × Free b ss

joined_free : (b : ℕ) (ss : List (List ℕ)) → Free b ss → Without b (joined ss)
unfolding Free joined before
joined_free b [] f = refl
joined_free b (s ∷ ss) f = without_append b s (joined ss) f.0 (joined_free b ss f.1)

body_free : (e : Entry) → Without 10 (joined (body e))
unfolding Free before
body_free e =
    let f = e.frame in
    let num = decimal_free 10 low in
    joined_free 10 (body e)
    (refl, (num e.time, (refl, (num f.bus, (refl, (kind_free f.id, (refl, (hex_free 10 low (raw_of f.id), (refl, (num f.dlc, (refl, (bytes_free 10 low f.data, tt))))))))))))

line_is : (e : Entry) → line_of e ≡ joined (body e) ++ (10 ∷ [])
unfolding line_of joined
line_is e = sym (joined_append (body e) ((10 ∷ []) ∷ []))

-- ---- a written log

unfoldable pub AllInForm : List Entry → Type 0
AllInForm [] = Unit {0}
AllInForm (e ∷ es) = InForm e × AllInForm es

lines_written : (e : Entry) (es : List Entry) → lines_of (joined (map line_of (e ∷ es))) ≡ line_of e ∷ lines_of (joined (map line_of es))
unfolding joined
lines_written e es =
    let r = joined (map line_of es) in
    ap (λ (l : List ℕ). lines_of (l ++ r)) (line_is e)
    ∙ (ap lines_of (append_assoc (joined (body e)) (10 ∷ []) r)
    ∙ (first_line (joined (body e)) r (body_free e) ∙ ap (λ (l : List ℕ). l ∷ lines_of r) (sym (line_is e))))

nothing : (n t : ℕ) → read_from n t (lines_of (joined [])) ≡ Ok []
unfolding read_from lines_of joined
nothing n t = refl

written_from : (n t : ℕ) (es : List Entry) → AllInForm es → Rising t es → n + length es ≤ 512 → read_from n t (lines_of (joined (map line_of es))) ≡ Ok es
unfolding AllInForm Rising read_from
written_from n t [] f r h = nothing n t
written_from n t (e ∷ es) f r h =
    ap (read_from n t) (lines_written e es)
    ∙ rw (every_line e f.0, le-ltb e.time t r.0, lt-ltb n 512 (omega arith), written_from (suc n) e.time es f.1 r.1 (omega arith))

pub every_log : (es : List Entry) → AllInForm es → Rising 0 es → length es ≤ 512 → reading (joined (map line_of es)) ≡ Ok es
unfolding reading
every_log es f r h = written_from 0 0 es f r (omega arith)
