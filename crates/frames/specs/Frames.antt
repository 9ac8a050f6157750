-- CAN ids and frames, the class of a frame to send, the buses (types.rs, can_tx.rs, channels.rs).
use Rattle.std.specs.Prelude.{Bool, true, false, cond, ℕ, eqb, ltb, leb}
use Rattle.arrays.specs.Arrays.{same_bytes}
use Rattle.frames.specs.declared.Id.{Id}
use Rattle.frames.specs.declared.Id.TheVariants.{Standard, Extended}
use Rattle.frames.specs.declared.CanFrame.{CanFrame}
use Rattle.frames.specs.declared.ProbeFrame.{ProbeFrame}
use Rattle.frames.specs.declared.TxClass.{TxClass}
use Rattle.frames.specs.declared.TxClass.TheVariants.{Platform, Command}

-- embedded_can: the number of an id
abbrev pub raw_of : Id → ℕ
raw_of (Standard n) = n
raw_of (Extended n) = n

-- 01, Allow a frame: a standard id does not exceed 0x7FF, an extended one not 0x1FFFFFFF
abbrev pub can_id_in_range : Id → Bool
can_id_in_range (Standard n) = leb n 0x7FF
can_id_in_range (Extended n) = leb n 0x1FFFFFFF

-- 01, Allow a frame: standard and extended ids with one number differ
abbrev pub same_id : Id → Id → Bool
same_id (Standard m) (Standard n) = eqb m n
same_id (Standard m) (Extended n) = false
same_id (Extended m) (Standard n) = false
same_id (Extended m) (Extended n) = eqb m n

-- can_probe.rs, allow_platform_tx_at: *id == frame.id && *data == frame.data
unfoldable pub is_entry : ProbeFrame → CanFrame → Bool
is_entry e f = cond (same_id e.id f.id) (same_bytes e.data f.data) false

-- channels.rs, MAX_CAN_BUSES: buses 0 to 3
abbrev pub bus_exists : ℕ → Bool
bus_exists bus = ltb bus 4

-- can_tx.rs, is_command
abbrev pub is_command : TxClass → Bool
is_command Platform = false
is_command Command = true
