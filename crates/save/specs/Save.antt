-- A save of the record while phones change (02, W-209).
use Rattle.std.specs.Prelude.{true, false, cond, not, List, [], ◌∷◌, ℕ, ◌+◌, min, eqb, length, take, drop}
use Rattle.arrays.specs.Arrays.{put}
use Rattle.phones.specs.Ids.{Left, stays, becomes}
use Rattle.saved_record.specs.SavedRecord.{CarIds, no_record}
use Rattle.state.specs.declared.Answer.{Answer}
use Rattle.state.specs.declared.Answer.TheVariants.{Done, Taken, NoSave}
use Rattle.state.specs.declared.Save.{Save}
use Rattle.state.specs.Checks.{◌refuses◌, checked}
use Rattle.validations.specs.Store.{record_for}

-- none is open: whatever becomes none is zeros
unfoldable pub no_save : Save
no_save = record { stored = no_record; at = 0; present = false }

-- what an operation on the save says: its answer, the save that is left, and what becomes of the memory that it was lent
pub record Saving : Type 0 where
  pub answer : Answer
  pub save : Save
  pub lent : Left (List ℕ)

-- "Opening a save fixes the record of that moment"; "Opening another save drops the unfinished one"
unfoldable pub opening : List CarIds → Saving
opening cs = record { answer = Done; save = record { stored = record_for cs; at = 0; present = true }; lent = stays }

-- the bytes that are left of a save
unfoldable pub rest : Save → List ℕ
rest s = drop s.at (take s.stored.len s.stored.bytes)

-- the save behind n bytes more
abbrev pub behind : Save → ℕ → Save
behind s n = record { stored = s.stored; at = s.at + n; present = s.present }

-- a refusal leaves the save and the lent bytes
abbrev pub refused : Save → Answer → Saving
refused s a = record { answer = a; save = s; lent = stays }

-- "Each take hands out as many of the next bytes as the lent length holds; lent bytes past them stay. The take that leaves no byte over
-- tells the end"; what was told the end is open no more
unfoldable pub taking : Save → List ℕ → Saving
taking s out =
    let n = min (length out) (length (rest s)) in
    let end = eqb n (length (rest s)) in
    checked (refused s)
    ((not s.present refuses NoSave) ∷ [])  -- 31
    (record { answer = Taken n end; save = cond end no_save (behind s n); lent = becomes (put out 0 (take n (rest s))) })
