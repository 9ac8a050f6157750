-- The lines of a text one after the other, and what a loop over them keeps.
use Rattle.std.proofs.Common.{◌≡◌, refl, ap, ap₂, sym, ◌∙◌, Bool, true, false, cond, List, [], ◌∷◌, ◌++◌, map, ℕ, suc, ◌+◌, ◌≤◌, ◌<◌, add-one, arith, lt-ltb, le-ltb, eqb-true, eqb, length, take, drop, set, replicate, length-append, Option, Some, None, Result, Ok, Err}
use native.Mathlib.Nat.{sub-zero}
use lib.ListN.{length-map}
use Rattle.arrays.specs.Arrays.{padded}
use Rattle.arrays.proofs.Laws.{padded_push}
use Rattle.frames.specs.declared.CanFrame.{CanFrame}
use Rattle.log_entries.specs.Entries.{Entry, entry}
use Rattle.word_table.specs.Words.{before, onto}
use Rattle.frame_lines.specs.declared.LineEntry.{LineEntry}
use Rattle.frame_log.specs.declared.LogError.{LogError}
use Rattle.frame_log.specs.declared.LogError.TheVariants.{BadLine, TimeBack, TooManyLines}
use Rattle.frame_log.specs.declared.ReadLog.{ReadLog}
use Rattle.frame_lines.specs.Guess.{empty_frame, read_line}
use Rattle.frame_log.specs.Logs.{lines_of, line_length, Reading, also, line_read, read_from, reading, time_of, frame_of, log_of, log_read, by_value, read_log}

-- ---- the first line

ended_by : (t : Bool) (b n m : ℕ) → cond t 0 (suc b) < suc n → (b < n → m ≡ suc b) → cond t 1 (suc m) ≡ suc (cond t 0 (suc b))
ended_by true b n m h ih = refl
ended_by false b n m h ih = ap suc (ih (omega arith))

line_ended : (s : List ℕ) → before 10 s < length s → line_length s ≡ suc (before 10 s)
unfolding before line_length
line_ended [] h = absurd (omega arith)
line_ended (x ∷ xs) h = ended_by (eqb x 10) (before 10 xs) (length xs) (line_length xs) h (line_ended xs)

open_by : (t : Bool) (b n m : ℕ) → suc n ≤ cond t 0 (suc b) → (n ≤ b → m ≡ n) → cond t 1 (suc m) ≡ suc n
open_by true b n m h ih = absurd (omega arith)
open_by false b n m h ih = ap suc (ih (omega arith))

line_open : (s : List ℕ) → length s ≤ before 10 s → line_length s ≡ length s
unfolding before line_length
line_open [] h = refl
line_open (x ∷ xs) h = open_by (eqb x 10) (before 10 xs) (length xs) (line_length xs) h (line_open xs)

-- where the code sees its end
module _ (s : List ℕ) (e : ℕ) (q : e ≡ 0 + before 10 (drop 0 s)) where
  pub end_found : e < length s → e + 1 ≡ line_length s
  end_found k = let w = line_ended s (omega arith) in omega arith

  pub end_open : length s ≤ e → length s ≡ line_length s
  end_open k = let w = line_open s (omega arith) in omega arith

long_by : (t : Bool) (m n : ℕ) → m ≤ n → (0 < cond t 1 (suc m)) × (cond t 1 (suc m) ≤ suc n)
long_by true m n h = (omega arith, omega arith)
long_by false m n h = (omega arith, omega arith)

pub line_le : (s : List ℕ) → line_length s ≤ length s
unfolding line_length
line_le [] = omega arith
line_le (x ∷ xs) = (long_by (eqb x 10) (line_length xs) (length xs) (line_le xs)).1

pub line_some : (s : List ℕ) → 0 < length s → 0 < line_length s
unfolding line_length
line_some [] h = absurd (omega arith)
line_some (x ∷ xs) h = (long_by (eqb x 10) (line_length xs) (length xs) (line_le xs)).0

-- the first line, and the others
first_by : (t : Bool) (x : ℕ) (xs : List ℕ) → eqb x 10 ≡ t → (0 < length xs → lines_of xs ≡ take (line_length xs) xs ∷ lines_of (drop (line_length xs) xs))
    → cond t ((10 ∷ []) ∷ lines_of xs) (onto x (lines_of xs)) ≡ take (cond t 1 (suc (line_length xs))) (x ∷ xs) ∷ lines_of (drop (cond t 1 (suc (line_length xs))) (x ∷ xs))
unfolding lines_of line_length
first_by true x xs e ih = ap (λ (y : ℕ). (y ∷ []) ∷ lines_of xs) (sym (eqb-true x 10 e))
first_by false x [] e ih = refl
first_by false x (y ∷ ys) e ih = ap (onto x) (ih (omega arith))

pub lines_first : (s : List ℕ) → 0 < length s → lines_of s ≡ take (line_length s) s ∷ lines_of (drop (line_length s) s)
unfolding lines_of line_length
lines_first [] h = absurd (omega arith)
lines_first (x ∷ xs) h = first_by (eqb x 10) x xs refl (lines_first xs)

-- ---- entries read so far

unfoldable pub upto : List Entry → Reading → Reading
upto [] r = r
upto (e ∷ es) r = also e (upto es r)

upto_snoc : (es : List Entry) (e : Entry) (r : Reading) → upto (es ++ (e ∷ [])) r ≡ upto es (also e r)
unfolding upto
upto_snoc [] e r = refl
upto_snoc (x ∷ es) e r = ap (also x) (upto_snoc es e r)

upto_ok : (es : List Entry) → upto es (Ok []) ≡ Ok es
unfolding upto
upto_ok [] = refl
upto_ok (e ∷ es) = ap (also e) (upto_ok es)

upto_err : (es : List Entry) (f : LogError) → upto es (Err f) ≡ Err f
unfolding upto
upto_err [] f = refl
upto_err (e ∷ es) f = ap (also e) (upto_err es f)

-- ---- what the loop keeps

pub record Kept (s rest : List ℕ) (frames : List CanFrame) (times : List ℕ) (n last : ℕ) : Type 0 where
  pub few : n ≤ 512
  pub es : List Entry
  pub count : n ≡ length es
  pub frames_are : frames ≡ padded 512 empty_frame (map frame_of es)
  pub times_are : times ≡ padded 512 0 (map time_of es)
  pub left : reading s ≡ upto es (read_from n last (lines_of rest))

map_snoc : {A : Type 0} (f : Entry → A) (es : List Entry) (e : Entry) → map f (es ++ (e ∷ [])) ≡ map f es ++ (f e ∷ [])
map_snoc f [] e = refl
map_snoc f (x ∷ es) e = ap (λ (l : List _). f x ∷ l) (map_snoc f es e)

pushed : {A : Type 0} (d : A) (f : Entry → A) (es : List Entry) (e : Entry) (xs : List A) (n : ℕ) → n < 512 → n ≡ length es → xs ≡ padded 512 d (map f es) → set xs n (f e) ≡ padded 512 d (map f (es ++ (e ∷ [])))
pushed d f es e xs n few h k =
    let l = length-map es f in
    let m : n ≡ length (map f es) = omega arith in
    ap₂ (λ (l : List _) (i : ℕ). set l i (f e)) k m ∙ (padded_push 512 d (f e) (map f es) (omega arith) ∙ ap (padded 512 d) (sym (map_snoc f es e)))

padded_none : {A : Type 0} (n : ℕ) (d : A) → replicate n d ≡ padded n d []
unfolding padded
padded_none n d = ap (λ (k : ℕ). replicate k d) (sym (sub-zero n))

pub kept_start : (s : List ℕ) (f : CanFrame) → f ≡ empty_frame → Kept s s (replicate 512 f) (replicate 512 0) 0 0
unfolding reading upto
kept_start s f e = record {
  few = omega arith;
  es = [];
  count = refl;
  frames_are = ap (replicate 512) e ∙ padded_none 512 empty_frame;
  times_are = padded_none 512 0;
  left = refl;
}

none_left : (s : List ℕ) → length s ≡ 0 → lines_of s ≡ []
unfolding lines_of
none_left [] h = refl
none_left (x ∷ xs) h = absurd (omega arith)

module _ (s rest : List ℕ) (frames : List CanFrame) (times : List ℕ) (n last : ℕ) (k : Kept s rest frames times n last) where
  pub kept_end : length rest ≡ 0 → ◌≡◌ {A = Result ReadLog LogError} (Ok (record { log = record { frames = frames; count = n }; times = times })) (read_log s)
  unfolding read_log read_from log_read log_of
  kept_end h =
      let e : read_from n last (lines_of rest) ≡ Ok [] = ap (read_from n last) (none_left rest h) in
      let r : reading s ≡ Ok k.es = k.left ∙ (ap (upto k.es) e ∙ upto_ok k.es) in
      let f = k.frames_are in
      let t = k.times_are in
      let m = k.count in
      (λ j. Ok (record { log = record { frames = f j; count = m j }; times = t j })) ∙ sym (ap by_value r)

  -- what was read of the first line, which m bytes make
  module _
      (h : 0 < length rest)
      (m : ℕ)
      (q : m ≡ line_length rest)
      (line more : List ℕ)
      (cut : line ≡ take m rest)
      (left : more ≡ drop m rest)
      (x : Option LineEntry)
      (is : x ≡ read_line line) where
    turn : reading s ≡ upto k.es (line_read n last x (λ (u : ℕ). read_from (suc n) u (lines_of more)))
    unfolding read_from
    turn =
        let lines : lines_of rest ≡ line ∷ lines_of more = rw (cut, left, q) (lines_first rest h) in
        k.left
        ∙ (ap (λ (ls : List (List ℕ)). upto k.es (read_from n last ls)) lines
        ∙ ap (λ (y : Option LineEntry). upto k.es (line_read n last y (λ (u : ℕ). read_from (suc n) u (lines_of more)))) (sym is))

    pub kept_bad : x ≡ None → ◌≡◌ {A = Result ReadLog LogError} (Err (BadLine (n + 1))) (read_log s)
    unfolding read_log
    kept_bad a = let r : reading s ≡ Err (BadLine (suc n)) = turn ∙ rw a (upto_err k.es (BadLine (suc n))) in rw (add-one n) (sym (ap by_value r))

    module _ (e : LineEntry) (a : x ≡ Some e) where
      pub kept_back : e.time < last → ◌≡◌ {A = Result ReadLog LogError} (Err (TimeBack (n + 1))) (read_log s)
      unfolding read_log
      kept_back b = let r : reading s ≡ Err (TimeBack (suc n)) = turn ∙ rw (a, lt-ltb e.time last b) (upto_err k.es (TimeBack (suc n))) in rw (add-one n) (sym (ap by_value r))

      pub kept_over : last ≤ e.time → 512 ≤ n → ◌≡◌ {A = Result ReadLog LogError} (Err TooManyLines) (read_log s)
      unfolding read_log
      kept_over b d = let r : reading s ≡ Err TooManyLines = turn ∙ rw (a, le-ltb e.time last b, le-ltb n 512 d) (upto_err k.es TooManyLines) in sym (ap by_value r)

      pub kept_again : last ≤ e.time → n < 512 → Kept s more (set frames n e.frame) (set times n e.time) (n + 1) e.time
      kept_again b d =
          let y = entry e.time e.frame in
          let l = length-append k.es (y ∷ []) in
          let c = k.count in
          record {
            few = omega arith;
            es = k.es ++ (y ∷ []);
            count = omega arith;
            frames_are = pushed empty_frame frame_of k.es y frames n d c k.frames_are;
            times_are = pushed 0 time_of k.es y times n d c k.times_are;
            left = turn ∙ rw (a, le-ltb e.time last b, lt-ltb n 512 d, add-one n) (sym (upto_snoc k.es y (read_from (suc n) e.time (lines_of more))));
          }
