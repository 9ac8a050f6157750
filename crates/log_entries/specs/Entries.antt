-- An entry of a log, when two frames are equal, and when a recorded frame can be that of an entry.
use Rattle.std.specs.Prelude.{Bool, false, cond, ℕ, ◌+◌, eqb, leb}
use Rattle.arrays.specs.Arrays.{same_bytes}
use Rattle.frames.specs.Frames.{same_id}
use Rattle.frames.specs.declared.CanFrame.{CanFrame}

-- bus, kind and id, dlc, all eight data bytes
unfoldable pub same_frame : CanFrame → CanFrame → Bool
same_frame a b = cond (eqb a.bus b.bus) (cond (same_id a.id b.id) (cond (eqb a.dlc b.dlc) (same_bytes a.data b.data) false) false) false

-- a frame and its time, in ms
pub record Entry : Type 0 where
  pub time : ℕ
  pub frame : CanFrame

abbrev pub entry : ℕ → CanFrame → Entry
entry t f = record { time = t; frame = f }

-- r can be the frame of j: j is 0 to 50 ms earlier, and the frames are equal
unfoldable pub fits : Entry → Entry → Bool
fits j r = cond (leb j.time r.time) (cond (leb r.time (j.time + 50)) (same_frame j.frame r.frame) false) false
