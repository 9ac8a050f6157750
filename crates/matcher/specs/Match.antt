-- What the matcher answers. `explains`, `verdict` and `match_of` are to be believed; how entries are chosen is no part of them.
use Rattle.std.specs.Prelude.{Bool, true, false, cond, not, List, [], ◌∷◌, ℕ, zero, suc, eqb, ltb, length, take, get_or, Option, Some, None, Result, Ok, Err}
use Rattle.frames.specs.declared.Id.TheVariants.{Standard}
use Rattle.frames.specs.declared.CanFrame.{CanFrame}
use Rattle.matcher.specs.declared.FrameLog.{FrameLog}
use Rattle.matcher.specs.declared.Log.{Log}
use Rattle.matcher.specs.declared.Log.TheVariants.{Journal, Recorder}
use Rattle.matcher.specs.declared.Match.{Match}
use Rattle.matcher.specs.declared.Match.TheVariants.{Matched, StopsAt}
use Rattle.matcher.specs.declared.LogFault.{LogFault}
use Rattle.matcher.specs.declared.LogFault.TheVariants.{BadLine, TimeBack, TooManyLines}
use Rattle.log_entries.specs.Entries.{Entry, entry, fits}

-- ---- entries

-- what a read past the end of a list of entries is
abbrev pub no_entry : Entry
no_entry = entry 0 (record { bus = 0; id = Standard 0; «data» = []; dlc = 0 })

unfoldable pub paired : List ℕ → List CanFrame → List Entry
paired [] fs = []
paired (t ∷ ts) [] = []
paired (t ∷ ts) (f ∷ fs) = entry t f ∷ paired ts fs

-- the frames of a log in their order, each with its time
unfoldable pub entries_of : FrameLog → List ℕ → List Entry
entries_of l ts = paired ts (take l.count l.frames)

-- ---- matching

-- whether a test passes at some place below n
unfoldable pub some_below : ℕ → (ℕ → Bool) → Bool
some_below zero f = false
some_below (suc n) f = cond (f n) true (some_below n f)

-- every place is free
unfoldable pub all_free : ℕ → Bool
all_free k = true

-- the places that are free, but for e
unfoldable pub without : ℕ → (ℕ → Bool) → ℕ → Bool
without e free k = cond (eqb k e) false (free k)

-- the entry at e is free and can be given to r
unfoldable pub can_take : List Entry → (ℕ → Bool) → Entry → ℕ → Bool
can_take js free r e = cond (free e) (fits (get_or js e no_entry) r) false

-- whether the frames rs can be given different free entries of js
unfoldable pub explains : List Entry → (ℕ → Bool) → List Entry → Bool
explains js free [] = true
explains js free (r ∷ rs) = some_below (length js) (λ (e : ℕ). cond (can_take js free r e) (explains js (without e free) rs) false)

-- the first of the numbers k, k + 1, .. at which a test passes, if there is one among n of them
unfoldable pub first_at : (ℕ → Bool) → ℕ → ℕ → Option ℕ
first_at f k zero = None
first_at f k (suc n) = cond (f k) (Some k) (first_at f (suc k) n)

abbrev pub stops : Option ℕ → Match
stops (Some k) = StopsAt k
stops None = Matched

-- the least k from 1 for which the first k recorded frames cannot all be given entries of the whole journal
unfoldable pub verdict : List Entry → List Entry → Match
verdict js rs = stops (first_at (λ (k : ℕ). not (explains js all_free (take k rs))) 1 (length rs))

-- ---- checks

-- 38: over 512 frames, or not as many times
unfoldable pub wrong_size : ℕ → List ℕ → Bool
wrong_size n ts = cond (ltb 512 n) true (not (eqb n (length ts)))

-- 37: the number of the first time below the one before it; k is the first one's number, and t the time before it
unfoldable pub fall_from : ℕ → ℕ → List ℕ → Option ℕ
fall_from k t [] = None
fall_from k t (u ∷ us) = cond (ltb u t) (Some k) (fall_from (suc k) u us)

unfoldable pub first_fall : List ℕ → Option ℕ
first_fall ts = fall_from 1 0 ts

abbrev pub or_back : Log → Option ℕ → Result Match LogFault → Result Match LogFault
or_back l (Some n) a = Err (TimeBack l n)
or_back l None a = a

-- 38 of either log, then 37 of either, then the verdict
unfoldable pub match_of : FrameLog → List ℕ → FrameLog → List ℕ → Result Match LogFault
match_of journal sent recorder seen =
    cond (wrong_size journal.count sent) (Err (TooManyLines Journal))
    (cond (wrong_size recorder.count seen) (Err (TooManyLines Recorder))
    (or_back Journal (first_fall sent)
    (or_back Recorder (first_fall seen)
    (Ok (verdict (entries_of journal sent) (entries_of recorder seen))))))

abbrev pub fault_number : LogFault → ℕ
fault_number (BadLine l n) = 36
fault_number (TimeBack l n) = 37
fault_number (TooManyLines l) = 38

abbrev pub number_of : Result Match LogFault → ℕ
number_of (Ok a) = 0
number_of (Err e) = fault_number e
