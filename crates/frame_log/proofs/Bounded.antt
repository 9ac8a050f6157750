-- The first 41,554 bytes of a text decide how it is read: a line above 81 bytes is not of the form, and line 513 is a fault.
use mathlib.Core.Path.{fun_ext}
use Rattle.std.proofs.Common.{◌≡◌, refl, ap, ap₂, sym, ◌∙◌, Bool, true, false, cond, List, [], ◌∷◌, ℕ, zero, suc, ◌+◌, ◌*◌, ◌-◌, ◌≤◌, ◌<◌, arith, ltb-true, ltb-false, eqb, ltb, length, take, drop, length-append, length-take, length-take-le, take-take, Option, Some, None, Err}
use native.Mathlib.Nat.{sub-zero, zero-sub, suc-sub-suc}
use lib.Seq.{take-nil}
use Rattle.decimal.proofs.Laws.{decimal_length}
use Rattle.hexadecimal.proofs.Laws.{hex_length}
use Rattle.frames.specs.Frames.{raw_of}
use Rattle.log_entries.specs.Entries.{Entry, entry}
use Rattle.frame_lines.specs.declared.LineEntry.{LineEntry}
use Rattle.frame_lines.specs.Lines.{joined, line_of, InForm}
use Rattle.frame_lines.specs.Guess.{read_line}
use Rattle.frame_log.specs.declared.LogError.TheVariants.{BadLine}
use Rattle.frame_log.specs.Logs.{lines_of, line_length, Reading, line_read, read_from, reading}
use Rattle.frame_lines.proofs.Pages.{hex_short, kind_length}
use Rattle.frame_lines.proofs.Theorems.{only_lines, only_in_form}
use Rattle.frame_log.proofs.Reading.{line_le, line_some, lines_first}

-- ---- a line has at most 81 bytes

pub line_short : (e : Entry) → InForm e → length (line_of e) ≤ 81
unfolding line_of joined
line_short e f =
    let t = f.time in
    let b = f.bus in
    let d = f.dlc in
    let n = f.eight in
    let p = decimal_length 19 e.time (omega arith) in
    let q = decimal_length 0 e.frame.bus (omega arith) in
    let r = decimal_length 0 e.frame.dlc (omega arith) in
    let h = hex_short (raw_of e.frame.id) in
    let k = kind_length e.frame.id in
    let x = hex_length e.frame.data in
    simp length-append (omega arith)

long_by : (x : Option LineEntry) (s : List ℕ) → read_line s ≡ x → 81 < length s → x ≡ None
long_by (Some x) s h k =
    let e : length s ≡ length (line_of (entry x.time x.frame)) = ap length (only_lines s x h) in
    let l = line_short (entry x.time x.frame) (only_in_form s x h) in
    absurd (omega arith)
long_by None s h k = refl

long_bad : (s : List ℕ) → 81 < length s → read_line s ≡ None
long_bad s h = long_by (read_line s) s refl h

-- ---- the first line of a text that is cut

cut_by : (t : Bool) (m n k : ℕ) → cond t 1 (suc m) ≤ suc n → (m ≤ n → k ≡ m) → cond t 1 (suc k) ≡ cond t 1 (suc m)
cut_by true m n k h ih = refl
cut_by false m n k h ih = ap suc (ih (omega arith))

cut_behind : (n : ℕ) (s : List ℕ) → line_length s ≤ n → line_length (take n s) ≡ line_length s
unfolding line_length
cut_behind zero [] h = refl
cut_behind zero (x ∷ xs) h = let l = line_some (x ∷ xs) (omega arith) in absurd (omega arith)
cut_behind (suc n) [] h = refl
cut_behind (suc n) (x ∷ xs) h = cut_by (eqb x 10) (line_length xs) n (line_length (take n xs)) h (cut_behind n xs)

inside_by : (t : Bool) (m n k : ℕ) → suc n ≤ cond t 1 (suc m) → (n ≤ m → k ≡ n) → cond t 1 (suc k) ≡ suc n
inside_by true m n k h ih = omega arith
inside_by false m n k h ih = ap suc (ih (omega arith))

cut_inside : (n : ℕ) (s : List ℕ) → n ≤ line_length s → line_length (take n s) ≡ n
unfolding line_length
cut_inside zero s h = refl
cut_inside (suc n) [] h = absurd (omega arith)
cut_inside (suc n) (x ∷ xs) h = inside_by (eqb x 10) (line_length xs) n (line_length (take n xs)) h (cut_inside n xs)

drop_take : (m n : ℕ) (l : List ℕ) → drop m (take n l) ≡ take (n - m) (drop m l)
drop_take zero n l = ap (λ (k : ℕ). take k l) (sym (sub-zero n))
drop_take (suc m) zero l = rw (zero-sub (suc m))
drop_take (suc m) (suc n) [] = sym (take-nil (suc n - suc m))
drop_take (suc m) (suc n) (x ∷ xs) = drop_take m n xs ∙ ap (λ (k : ℕ). take k (drop m xs)) (sym (suc-sub-suc n m))

-- ---- one line and the rest

told_bad : (n t : ℕ) (x : Option LineEntry) (more : ℕ → Reading) → x ≡ None → line_read n t x more ≡ Err (BadLine (suc n))
told_bad n t x more h = rw h

-- line 513 is a fault, whatever stands behind it
told_last : (t : ℕ) (x : Option LineEntry) (q r : ℕ → Reading) → line_read 512 t x q ≡ line_read 512 t x r
told_last t None q r = refl
told_last t (Some e) q r = refl

-- what is told of the lines of a text from its first line on
rest_told : ℕ → List ℕ → ℕ → Reading
rest_told n s u = read_from (suc n) u (lines_of s)

some : (s : List ℕ) (n : ℕ) → 0 < n → 0 < length s → 0 < length (take n s)
some s n h k = let l = length-take n s in omega arith

far_by : (t : Bool) (cut : ℕ) (s : List ℕ) → ltb cut (line_length s) ≡ t → 81 < cut → 81 < line_length s → 81 < line_length (take cut s)
far_by true cut s e h k = let l = ltb-true cut (line_length s) e in let c = cut_inside cut s (omega arith) in omega arith
far_by false cut s e h k = let l = ltb-false cut (line_length s) e in let c = cut_behind cut s l in omega arith

module _ (n t cut : ℕ) (s : List ℕ) (here : 0 < length s) (wide : 81 < cut) where
  -- a first line above 81 bytes is a fault in both
  long_line : 81 < line_length s → read_from n t (lines_of (take cut s)) ≡ read_from n t (lines_of s)
  unfolding read_from
  long_line h =
      let x = take cut s in
      let k = line_length x in
      let far : 81 < k = far_by (ltb cut (line_length s)) cut s refl wide h in
      let a = length-take-le k x (line_le x) in
      let b = length-take-le (line_length s) s (line_le s) in
      ap (read_from n t) (lines_first x (some s cut (omega arith) here))
      ∙ (told_bad n t (read_line (take k x)) _ (long_bad (take k x) (omega arith))
      ∙ (sym (told_bad n t (read_line (take (line_length s) s)) _ (long_bad (take (line_length s) s) (omega arith)))
      ∙ sym (ap (read_from n t) (lines_first s here))))

  -- a shorter one is the same in both, and the rest is cut by it
  short_line : line_length s ≤ 81
      → line_read n t (read_line (take (line_length s) s)) (rest_told n (take (cut - line_length s) (drop (line_length s) s)))
      ≡ line_read n t (read_line (take (line_length s) s)) (rest_told n (drop (line_length s) s))
      → read_from n t (lines_of (take cut s)) ≡ read_from n t (lines_of s)
  unfolding read_from rest_told
  short_line h more =
      let x = take cut s in
      let l = line_length s in
      let e : line_length x ≡ l = cut_behind cut s (omega arith) in
      let f : take (line_length x) x ≡ take l s = ap (λ (k : ℕ). take k x) e ∙ take-take l cut s (omega arith) in
      let g : drop (line_length x) x ≡ take (cut - l) (drop l s) = ap (λ (k : ℕ). drop k x) e ∙ drop_take l cut s in
      ap (read_from n t) (lines_first x (some s cut (omega arith) here) ∙ ap₂ (λ (a b : List ℕ). a ∷ lines_of b) f g)
      ∙ (more ∙ sym (ap (read_from n t) (lines_first s here)))

-- ---- all lines

first_by : (b : Bool) (n t cut : ℕ) (s : List ℕ) → ltb 81 (line_length s) ≡ b → 0 < length s → 81 < cut
    → (line_length s ≤ 81 → line_read n t (read_line (take (line_length s) s)) (rest_told n (take (cut - line_length s) (drop (line_length s) s)))
    ≡ line_read n t (read_line (take (line_length s) s)) (rest_told n (drop (line_length s) s)))
    → read_from n t (lines_of (take cut s)) ≡ read_from n t (lines_of s)
first_by true n t cut s e here wide more = long_line n t cut s here wide (ltb-true 81 (line_length s) e)
first_by false n t cut s e here wide more = let h = ltb-false 81 (line_length s) e in short_line n t cut s here wide h (more h)

at_all : (n t cut : ℕ) (s : List ℕ) → (0 < length s → read_from n t (lines_of (take cut s)) ≡ read_from n t (lines_of s)) → read_from n t (lines_of (take cut s)) ≡ read_from n t (lines_of s)
at_all n t cut [] f = ap (λ (x : List ℕ). read_from n t (lines_of x)) (take-nil cut)
at_all n t cut (x ∷ xs) f = f (omega arith)

-- k more lines may come before line 513
bounded : (k n t cut : ℕ) (s : List ℕ) → n + k ≡ 512 → suc k * 81 < cut → read_from n t (lines_of (take cut s)) ≡ read_from n t (lines_of s)
unfolding rest_told
bounded zero n t cut s e h =
    let m : n ≡ 512 = omega arith in
    at_all n t cut s (λ here. first_by (ltb 81 (line_length s)) n t cut s refl here (omega arith) (λ l. rw m (told_last t _ _ _)))
bounded (suc k) n t cut s e h =
    at_all n t cut s (λ here. first_by (ltb 81 (line_length s)) n t cut s refl here (omega arith)
    (λ l. ap (line_read n t (read_line (take (line_length s) s))) (fun_ext (λ u. bounded k (suc n) u (cut - line_length s) (drop (line_length s) s) (omega arith) (omega arith)))))

-- 513 lines of 81 bytes, and one byte more
pub first_bytes : (cut : ℕ) (s : List ℕ) → 41553 < cut → reading (take cut s) ≡ reading s
unfolding reading
first_bytes cut s h = bounded 512 0 0 cut s refl (omega arith)
