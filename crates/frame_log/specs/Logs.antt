-- Logs: 02, W-213.
use Rattle.std.specs.Prelude.{cond, List, [], ◌∷◌, map, ℕ, suc, eqb, ltb, length, Option, Some, None, Result, Ok, Err}
use Rattle.arrays.specs.Arrays.{padded}
use Rattle.frames.specs.declared.CanFrame.{CanFrame}
use Rattle.log_entries.specs.Entries.{Entry, entry}
use Rattle.matcher.specs.declared.FrameLog.{FrameLog}
use Rattle.word_table.specs.Words.{onto}
use Rattle.frame_lines.specs.declared.LineEntry.{LineEntry}
use Rattle.frame_log.specs.declared.LogError.{LogError}
use Rattle.frame_log.specs.declared.LogError.TheVariants.{BadLine, TimeBack, TooManyLines}
use Rattle.frame_log.specs.declared.ReadLog.{ReadLog}
use Rattle.frame_lines.specs.Guess.{empty_frame, read_line}

-- the lines of a text: each ends behind its byte 10, and what stands behind the last is a line without it
unfoldable pub lines_of : List ℕ → List (List ℕ)
lines_of [] = []
lines_of (x ∷ xs) = cond (eqb x 10) ((10 ∷ []) ∷ lines_of xs) (onto x (lines_of xs))

-- the entries of a log, or its first line at fault
abbrev pub Reading : Type 0
Reading = Result (List Entry) LogError

abbrev pub also : Entry → Reading → Reading
also e (Ok es) = Ok (e ∷ es)
also e (Err f) = Err f

-- a line behind n others, the last of them with time t: "36 BadLine .. 37 TimeBack .. 38 TooManyLines (more than 512) .. in that
-- order on one line"; else its entry, and those of the lines behind it, which are read from its time on
abbrev pub line_read : ℕ → ℕ → Option LineEntry → (ℕ → Reading) → Reading
line_read n t None more = Err (BadLine (suc n))
line_read n t (Some e) more =
    cond (ltb e.time t) (Err (TimeBack (suc n)))
    (cond (ltb n 512) (also (entry e.time e.frame) (more e.time))
    (Err TooManyLines))

-- "The first line at fault decides"
unfoldable pub read_from : ℕ → ℕ → List (List ℕ) → Reading
read_from n t [] = Ok []
read_from n t (l ∷ ls) = line_read n t (read_line l) (λ (u : ℕ). read_from (suc n) u ls)

unfoldable pub reading : List ℕ → Reading
reading s = read_from 0 0 (lines_of s)

-- ---- by value

abbrev pub time_of : Entry → ℕ
time_of e = e.time

abbrev pub frame_of : Entry → CanFrame
frame_of e = e.frame

unfoldable pub log_of : List Entry → FrameLog
log_of es = record { frames = padded 512 empty_frame (map frame_of es); count = length es }

unfoldable pub log_read : List Entry → ReadLog
log_read es = record { log = log_of es; times = padded 512 0 (map time_of es) }

abbrev pub by_value : Reading → Result ReadLog LogError
by_value (Ok es) = Ok (log_read es)
by_value (Err f) = Err f

unfoldable pub read_log : List ℕ → Result ReadLog LogError
read_log s = by_value (reading s)

-- how many bytes the first line of a text has
unfoldable pub line_length : List ℕ → ℕ
line_length [] = 0
line_length (x ∷ xs) = cond (eqb x 10) 1 (suc (line_length xs))
