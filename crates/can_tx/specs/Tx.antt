-- The check of every outbound frame (can_probe.rs).
use Rattle.std.specs.Prelude.{Bool, cond, not, ◌&&◌, [], ◌∷◌, ℕ, Option, Some, None, eqb}
use Rattle.frames.specs.declared.CanFrame.{CanFrame}
use Rattle.frames.specs.declared.TxClass.{TxClass}
use Rattle.frames.specs.declared.TxClass.TheVariants.{Platform, Command}
use Rattle.frames.specs.Frames.{can_id_in_range}
use Rattle.state.specs.declared.Policy.{Policy}
use Rattle.state.specs.declared.Core.{Core}
use Rattle.state.specs.declared.Answer.TheVariants.{Yes, No, BadFrame}
use Rattle.state.specs.declared.Said.{Said}
use Rattle.state.specs.Parts.{with_probe, with_window}
use Rattle.state.specs.Replies.{leave, quiet, yes_no}
use Rattle.state.specs.Checks.{◌refuses◌, checked}
use Rattle.policy.specs.Policy.{is_bus_read_only}
use Rattle.probe_window.specs.Window.{is_open, unsent_in, marked_sent}

-- a frame that only an open window lets through: the first unsent equal entry is marked
abbrev pub passed : Core → Option ℕ → Said
passed c None = leave c No
passed c (Some i) = quiet (with_probe c (with_window c.probe (marked_sent c.probe.window i))) Yes

unfoldable pub through_window : Core → ℕ → CanFrame → ℕ → Said
through_window c bus frame clock =
    cond (eqb frame.bus bus && eqb frame.dlc 8 && is_open c.policy c.probe bus clock)
    (passed c (unsent_in c.probe.window frame))
    (leave c No)

-- allow_platform_tx_at: while the bus is read-write neither the frame's bus nor its dlc is looked at
unfoldable pub allow_platform : Core → ℕ → CanFrame → ℕ → Said
allow_platform c bus frame clock = cond (is_bus_read_only c.policy bus) (through_window c bus frame clock) (leave c Yes)

-- a command: the frame's bus is the bus, the bus is read-write, its owner is validated
unfoldable pub allows_command : Policy → ℕ → CanFrame → Bool → Bool
allows_command p bus frame validated = eqb frame.bus bus && not (is_bus_read_only p bus) && validated

abbrev pub allow_class : Core → ℕ → CanFrame → Bool → ℕ → TxClass → Said
allow_class c bus frame validated clock Platform = allow_platform c bus frame clock
allow_class c bus frame validated clock Command = leave c (yes_no (allows_command c.policy bus frame validated))

-- allow_can_tx; `validated`: the owner of a command is; 24 for an id out of range
unfoldable pub allow : Core → ℕ → CanFrame → TxClass → Bool → ℕ → Said
allow c bus frame class validated clock =
    checked (leave c)
    ((not (can_id_in_range frame.id) refuses BadFrame) ∷ [])  -- 24
    (allow_class c bus frame validated clock class)
