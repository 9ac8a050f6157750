-- What is answered for two logs, and its line: 02, W-213.
use Rattle.std.specs.Prelude.{List, [], ◌∷◌, ◌++◌, ℕ, ◌<◌, Result, Ok, Err}
use Rattle.ascii.specs.Ascii.{ascii}
use Rattle.decimal.specs.Decimal.{decimal_of}
use Rattle.frame_lines.specs.Lines.{joined}
use Rattle.frame_log.specs.Logs.{Reading, reading}
use Rattle.frame_log.specs.declared.LogError.{LogError}
use Rattle.frame_log.specs.declared.LogError.TheVariants as read
use Rattle.log_entries.specs.Entries.{Entry}
use Rattle.matcher.specs.Match.{verdict}
use Rattle.matcher.specs.declared.Log.{Log}
use Rattle.matcher.specs.declared.Log.TheVariants.{Journal, Recorder}
use Rattle.matcher.specs.declared.Match.{Match}
use Rattle.matcher.specs.declared.Match.TheVariants.{Matched, StopsAt}
use Rattle.matcher.specs.declared.LogFault.{LogFault}
use Rattle.matcher.specs.declared.LogFault.TheVariants.{BadLine, TimeBack, TooManyLines}

abbrev pub Answer : Type 0
Answer = Result Match LogFault

-- what is answered for a log's first line at fault
abbrev pub fault_of : Log → LogError → LogFault
fault_of l (read.BadLine n) = BadLine l n
fault_of l (read.TimeBack n) = TimeBack l n
fault_of l read.TooManyLines = TooManyLines l

-- what is answered from the entries of a log, if it has no line at fault
abbrev pub or_fault : Log → Reading → (List Entry → Answer) → Answer
or_fault l (Ok es) f = f es
or_fault l (Err e) f = Err (fault_of l e)

-- "the whole journal before the recorder"
unfoldable pub match_texts : List ℕ → List ℕ → Answer
match_texts journal recorder =
    or_fault Journal (reading journal) (λ (js : List Entry). or_fault Recorder (reading recorder) (λ (rs : List Entry). Ok (verdict js rs)))

-- ---- as the code takes it apart

-- its number fits 64 bits
abbrev pub Small : Answer → Type 0
Small (Ok Matched) = Unit {0}
Small (Ok (StopsAt n)) = n < 18446744073709551616
Small (Err (BadLine l n)) = n < 18446744073709551616
Small (Err (TimeBack l n)) = n < 18446744073709551616
Small (Err (TooManyLines l)) = Unit {0}

-- ---- the line of an answer

abbrev pub log_name : Log → List ℕ
log_name Journal = ascii " log=journal"
log_name Recorder = ascii " log=recorder"

abbrev pub words : Answer → List (List ℕ)
words (Ok Matched) = ascii "answer=yes" ∷ []
words (Ok (StopsAt n)) = ascii "answer=no line=" ∷ decimal_of n ∷ []
words (Err (BadLine l n)) = ascii "answer=36/BadLine" ∷ log_name l ∷ ascii " line=" ∷ decimal_of n ∷ []
words (Err (TimeBack l n)) = ascii "answer=37/TimeBack" ∷ log_name l ∷ ascii " line=" ∷ decimal_of n ∷ []
words (Err (TooManyLines l)) = ascii "answer=38/TooManyLines" ∷ log_name l ∷ []

unfoldable pub answer_line : Answer → List ℕ
answer_line a = joined (words a) ++ (10 ∷ [])
