-- A log that is read has at most 512 entries, and their times never fall; so the matcher's checks pass, and its verdict is left.
use Rattle.std.proofs.Common.{◌≡◌, refl, ap, ap₂, sym, ◌∙◌, Bool, true, false, List, [], ◌∷◌, map, ℕ, suc, ◌+◌, ◌≤◌, ◌<◌, arith, le-ltb, eq-eqb, ltb-true, ltb, length, take, length-append, Option, Some, None, Result, Ok, Err, MatchResult, IsErrAnd}
use lib.ListN.{length-map}
use Rattle.arrays.specs.Arrays.{padded}
use Rattle.arrays.proofs.Laws.{padded_take}
use Rattle.decimal.proofs.Laws.{decimal_length}
use Rattle.frame_log.specs.declared.ReadLog.{ReadLog}
use Rattle.frame_lines.specs.Guess.{empty_frame, read_line}
use Rattle.frame_lines.specs.Lines.{joined}
use Rattle.frame_lines.specs.declared.LineEntry.{LineEntry}
use Rattle.frame_log.specs.declared.LogError.{LogError}
use Rattle.frame_log.specs.Logs.{lines_of, Reading, also, line_read, read_from, reading, time_of, frame_of, log_of, log_read, by_value, read_log}
use Rattle.frame_lines.specs.Walk.{Laid, lay}
use Rattle.frame_log.proofs.Bounded.{first_bytes}
use Rattle.frame_lines.proofs.Pages.{laid_text, laid_all}
use Rattle.replay_page.specs.Page.{Page, text}
use Rattle.log_entries.specs.Entries.{Entry, entry}
use Rattle.matcher.specs.Match.{paired, entries_of, wrong_size, fall_from, first_fall, match_of, verdict}
use Rattle.matcher.specs.declared.Log.{Log}
use Rattle.matcher.specs.declared.Log.TheVariants.{Journal, Recorder}
use Rattle.matcher.specs.declared.Match.TheVariants.{Matched, StopsAt}
use Rattle.matcher.specs.declared.LogFault.{LogFault}
use Rattle.matcher.specs.declared.LogFault.TheVariants.{BadLine, TimeBack, TooManyLines}
use Rattle.match_logs.specs.Texts.{Answer, fault_of, match_texts, Small, log_name, words, answer_line}

-- ---- what is read

-- at most 512 entries with the n before them, whose times do not fall from t on
abbrev Fits : ℕ → ℕ → ℕ → Reading → Type 0
Fits n k t (Ok es) = (n + length es ≤ 512) × (fall_from k t (map time_of es) ≡ None)
Fits n k t (Err e) = Unit {0}

also_fits : (n k t : ℕ) (e : Entry) (r : Reading) → ltb e.time t ≡ false → Fits (suc n) (suc k) e.time r → Fits n k t (also e r)
unfolding fall_from
also_fits n k t e (Ok es) h f = let m = f.0 in (omega arith, rw h f.1)
also_fits n k t e (Err x) h f = tt

line_fits : (x : Option LineEntry) (n k t : ℕ) (more : ℕ → Reading) → ((u : ℕ) → n < 512 → Fits (suc n) (suc k) u (more u)) → Fits n k t (line_read n t x more)
line_fits None n k t more ih = tt
line_fits (Some e) n k t more ih = go (ltb e.time t) (ltb n 512) refl refl
  where
    go : (a b : Bool) → ltb e.time t ≡ a → ltb n 512 ≡ b → Fits n k t (line_read n t (Some e) more)
    go true b p q = rw p tt
    go false false p q = rw (p, q) tt
    go false true p q = rw (p, q) (also_fits n k t (entry e.time e.frame) (more e.time) p (ih e.time (ltb-true n 512 q)))

lines_fit : (ls : List (List ℕ)) (n k t : ℕ) → n ≤ 512 → Fits n k t (read_from n t ls)
unfolding read_from fall_from
lines_fit [] n k t h = (omega arith, refl)
lines_fit (l ∷ ls) n k t h = line_fits (read_line l) n k t (λ (u : ℕ). read_from (suc n) u ls) (λ u m. lines_fit ls (suc n) (suc k) u m)

read_fits : (s : List ℕ) (es : List Entry) → reading s ≡ Ok es → (length es ≤ 512) × (fall_from 1 0 (map time_of es) ≡ None)
unfolding reading
read_fits s es e = let w : Fits 0 1 0 (Ok es) = rw e at (lines_fit (lines_of s) 0 1 0 (omega arith)) in let a = w.0 in (omega arith, w.1)

-- ---- by value

paired_is : (es : List Entry) → paired (map time_of es) (map frame_of es) ≡ es
unfolding paired
paired_is [] = refl
paired_is (e ∷ es) = ap (λ (l : List Entry). e ∷ l) (paired_is es)

entries_are : (es : List Entry) → entries_of (log_of es) (map time_of es) ≡ es
unfolding entries_of log_of
entries_are es =
    let l = length-map es frame_of in
    ap (λ (n : ℕ). paired (map time_of es) (take n (padded 512 empty_frame (map frame_of es)))) (sym l)
    ∙ (ap (paired (map time_of es)) (padded_take 512 empty_frame (map frame_of es)) ∙ paired_is es)

size_right : (es : List Entry) → length es ≤ 512 → wrong_size (log_of es).count (map time_of es) ≡ false
unfolding wrong_size log_of
size_right es h = let l = length-map es time_of in rw (le-ltb 512 (length es) h, eq-eqb (length es) (length (map time_of es)) (sym l))

-- the times that are lent
times_lent : (es : List Entry) → take (length es) (padded 512 0 (map time_of es)) ≡ map time_of es
times_lent es = let l = length-map es time_of in ap (λ (n : ℕ). take n (padded 512 0 (map time_of es))) (sym l) ∙ padded_take 512 0 (map time_of es)

-- the matcher's answer for two logs that were read
matched : (js rs : List Entry) → (length js ≤ 512) × (fall_from 1 0 (map time_of js) ≡ None) → (length rs ≤ 512) × (fall_from 1 0 (map time_of rs) ≡ None)
    → match_of (log_of js) (map time_of js) (log_of rs) (map time_of rs) ≡ Ok (verdict js rs)
unfolding match_of first_fall
matched js rs f g = rw (size_right js f.0, size_right rs g.0, f.1, g.1, entries_are js, entries_are rs)

lent : (js rs : List Entry) → match_of (log_read js).log (take (log_read js).log.count (log_read js).times) (log_read rs).log (take (log_read rs).log.count (log_read rs).times) ≡ match_of (log_of js) (map time_of js) (log_of rs) (map time_of rs)
unfolding log_read log_of
lent js rs = ap₂ (λ (x y : List ℕ). match_of (log_of js) x (log_of rs) y) (times_lent js) (times_lent rs)

pub both_read : (s t : List ℕ) (j r : ReadLog) (js rs : List Entry) → reading s ≡ Ok js → reading t ≡ Ok rs → j ≡ log_read js → r ≡ log_read rs
    → match_of j.log (take j.log.count j.times) r.log (take r.log.count r.times) ≡ match_texts s t
unfolding match_texts
both_read s t j r js rs p q e f = rw (p, q, e, f) (lent js rs ∙ matched js rs (read_fits s js p) (read_fits t rs q))

-- ---- one log, or why it is refused

-- a log that was read has at most 512 frames
few : (s : List ℕ) (es : List Entry) → reading s ≡ Ok es → (log_read es).log.count ≤ 512
unfolding log_read log_of
few s es p = (read_fits s es p).0

module _ (s : List ℕ) (l : Log) (r : Result ReadLog LogFault) (P : LogError → LogFault → Type 0) (fault : (x : LogError) (d : LogFault) → P x d → d ≡ fault_of l x) where
  abbrev pub Told : Type 0
  Told = MatchResult r (λ (x : ReadLog). (es : List Entry) × (reading s ≡ Ok es) × (x ≡ log_read es) × (x.log.count ≤ 512)) (λ (d : LogFault). (x : LogError) × (reading s ≡ Err x) × (d ≡ fault_of l x))

  pub told : (q : Result ReadLog LogError) → q ≡ read_log s → MatchResult q (λ (x : ReadLog). r ≡ Ok x) (λ (x : LogError). IsErrAnd r (P x)) → Told
  unfolding read_log
  told q e h = go (reading s) refl e
    where
      on_err : (x : LogError) → reading s ≡ Err x → (d : Result ReadLog LogFault) → r ≡ d → IsErrAnd d (P x) → Told
      on_err x p (Ok y) w k = absurd k
      on_err x p (Err d) w k = rw w (x, p, fault x d k)

      go : (w : Reading) → reading s ≡ w → q ≡ by_value w → Told
      go (Ok es) p e = let k : r ≡ Ok (log_read es) = rw e at h in rw k (es, p, refl, few s es p)
      go (Err x) p e = let k : IsErrAnd r (P x) = rw e at h in on_err x p r refl k

-- ---- logs of any length

-- the first 41,554 bytes of each log decide the answer
pub first_bytes_decide : (journal recorder : List ℕ) → match_texts (take 41554 journal) (take 41554 recorder) ≡ match_texts journal recorder
unfolding match_texts
first_bytes_decide journal recorder = rw (first_bytes 41554 journal (omega arith), first_bytes 41554 recorder (omega arith))

-- ---- the line of an answer

name_short : (l : Log) → length (log_name l) ≤ 13
name_short Journal = omega arith
name_short Recorder = omega arith

words_short : (a : Answer) → Small a → length (joined (words a)) ≤ 63
unfolding joined
words_short (Ok Matched) h = omega arith
words_short (Ok (StopsAt n)) h = let d = decimal_length 19 n (omega arith) in simp length-append (omega arith)
words_short (Err (BadLine l n)) h = let d = decimal_length 19 n (omega arith) in let m = name_short l in simp length-append (omega arith)
words_short (Err (TimeBack l n)) h = let d = decimal_length 19 n (omega arith) in let m = name_short l in simp length-append (omega arith)
words_short (Err (TooManyLines l)) h = let m = name_short l in simp length-append (omega arith)

pub answer_laid : (p : Page) (a : Answer) → Laid 64 p [] → Small a → Laid 64 (text (10 ∷ []) (lay (words a) p)) (answer_line a)
unfolding answer_line
answer_laid p a clean h =
    let s = words_short a h in
    laid_text 64 (lay (words a) p) (joined (words a)) (10 ∷ []) (laid_all 64 (words a) p [] clean (omega arith)) (omega arith)
