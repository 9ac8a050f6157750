-- Small cases, by computation. Frames are equal but where a case says otherwise.
use Rattle.std.proofs.Common.{◌≡◌, refl, List, [], ◌∷◌, map, ℕ, length, Result, Ok, Err}
use Rattle.frames.specs.declared.Id.{Id}
use Rattle.frames.specs.declared.Id.TheVariants.{Standard, Extended}
use Rattle.frames.specs.declared.CanFrame.{CanFrame}
use Rattle.matcher.specs.declared.FrameLog.{FrameLog}
use Rattle.matcher.specs.declared.Log.TheVariants.{Journal, Recorder}
use Rattle.matcher.specs.declared.Match.{Match}
use Rattle.matcher.specs.declared.Match.TheVariants.{Matched, StopsAt}
use Rattle.matcher.specs.declared.LogFault.{LogFault}
use Rattle.matcher.specs.declared.LogFault.TheVariants.{TimeBack, TooManyLines}
use Rattle.arrays.specs.Arrays.{same_bytes}
use Rattle.log_entries.specs.Entries.{same_frame, fits}
use Rattle.matcher.specs.Match.{paired, entries_of, some_below, all_free, without, can_take, explains, first_at, verdict, wrong_size, fall_from, first_fall, match_of}

abbrev frame : Id → CanFrame
frame i = record { bus = 1; id = i; «data» = 1 ∷ 2 ∷ 3 ∷ 4 ∷ 5 ∷ 6 ∷ 7 ∷ 8 ∷ []; dlc = 8 }

abbrev std : CanFrame
std = frame (Standard 0x123)

abbrev ext : CanFrame
ext = frame (Extended 0x123)

abbrev log : List CanFrame → FrameLog
log fs = record { frames = fs; count = length fs }

-- logs of one frame, repeated at these times
abbrev answer : List ℕ → List ℕ → Result Match LogFault
answer js rs = match_of (log (map (λ (t : ℕ). std) js)) js (log (map (λ (t : ℕ). std) rs)) rs

record Cases : Type 0 where
  fifty : answer (0 ∷ []) (50 ∷ []) ≡ Ok Matched
  fifty_one : answer (0 ∷ []) (51 ∷ []) ≡ Ok (StopsAt 1)
  -- an entry serves once
  used_once : answer (0 ∷ []) (10 ∷ 10 ∷ []) ≡ Ok (StopsAt 2)
  -- the latest entry for the first frame would leave none for the second
  not_the_latest : answer (100 ∷ 140 ∷ []) (140 ∷ 151 ∷ []) ≡ Ok Matched
  -- the entry is 1 ms later
  too_late : answer (11 ∷ []) (10 ∷ []) ≡ Ok (StopsAt 1)
  -- a standard and an extended id of one number
  kinds_differ : match_of (log (std ∷ [])) (0 ∷ []) (log (ext ∷ [])) (0 ∷ []) ≡ Ok (StopsAt 1)
  -- a time too few in the recorder comes before a time that falls in the journal
  size_first : match_of (log (std ∷ std ∷ [])) (1 ∷ 0 ∷ []) (log (std ∷ [])) [] ≡ Err (TooManyLines Recorder)
  falls_at_two : answer (1 ∷ 0 ∷ []) (1 ∷ 0 ∷ []) ≡ Err (TimeBack Journal 2)

cases : Cases
unfolding match_of wrong_size first_fall fall_from verdict first_at explains some_below all_free without can_take fits same_frame same_bytes entries_of paired
cases = record { fifty = refl; fifty_one = refl; used_once = refl; not_the_latest = refl; too_late = refl; kinds_differ = refl; size_first = refl; falls_at_two = refl }
