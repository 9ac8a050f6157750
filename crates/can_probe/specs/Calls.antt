-- The calls of the identity probe (can_probe.rs).
use Rattle.std.specs.Prelude.{Bool, cond, not, ◌&&◌, List, [], ◌∷◌, ℕ, ◌+◌, leb, take}
use Rattle.frames.specs.declared.ProbeFrame.{ProbeFrame}
use Rattle.frames.specs.Frames.{bus_exists}
use Rattle.state.specs.declared.Policy.{Policy}
use Rattle.state.specs.declared.Probe.{Probe}
use Rattle.state.specs.declared.Core.{Core}
use Rattle.state.specs.declared.Answer.{Answer}
use Rattle.state.specs.declared.Answer.TheVariants.{Done, Yes, No, Invalid, NotNeeded, Logging, BusAsleep, Busy, NoAttemptsLeft}
use Rattle.state.specs.declared.Said.{Said}
use Rattle.state.specs.Parts.{with_probe, with_window, with_attempts}
use Rattle.range.specs.Range.{within}
use Rattle.state.specs.Replies.{read_only_changed, leave, quiet, reply}
use Rattle.state.specs.Checks.{◌refuses◌, checked}
use Rattle.policy.specs.Policy.{is_read_only, is_fd_bus}
use Rattle.probe_window.specs.Window.{is_bus_awake, heard_at, probe_needed, ids_in_range, no_window, new_window}

-- ---- open and close

-- 17: the bus above 3 or FD, the count not 1 to 4, or an id out of range
unfoldable pub is_valid_probe : Policy → ℕ → List ProbeFrame → ℕ → Bool
is_valid_probe p bus frames count =
    bus_exists bus && not (is_fd_bus p.buses bus) && within 1 4 count && ids_in_range (take count frames)

-- notify_can_read_only_changed after a change of the window
unfoldable pub window_changed : Core → Answer → Probe → Said
window_changed c a b = reply (with_probe c b) a (read_only_changed (is_read_only c.policy))

-- open_identity_probe
unfoldable pub open_probe : Core → ℕ → List ProbeFrame → ℕ → ℕ → Said
open_probe c bus frames count clock =
    checked (leave c)
    ((not (is_valid_probe c.policy bus frames count) refuses Invalid) ∷  -- 17
    (not (probe_needed c.policy.identity) refuses NotNeeded) ∷  -- 12
    (c.policy.buses.logging refuses Logging) ∷  -- 13
    (not (is_bus_awake c.probe.heard c.probe.marks bus clock) refuses BusAsleep) ∷  -- 14
    (c.probe.window.present refuses Busy) ∷  -- 15
    (leb 5 c.probe.attempts refuses NoAttemptsLeft) ∷ [])  -- 16
    (window_changed c Done
    (with_attempts (with_window c.probe (new_window bus (take count frames) clock c.probe.relocks)) (c.probe.attempts + 1)))

-- ProbeWindow's drop; no, without a signal, if none was opened since the last close
unfoldable pub close_probe : Core → Said
close_probe c = cond c.probe.window.present (window_changed c Yes (with_window c.probe no_window)) (leave c No)

-- ---- a frame was heard

-- note_can_rx; nothing for a bus above 3
unfoldable pub heard : Core → ℕ → ℕ → Said
heard c bus clock =
    cond (bus_exists bus)
    (quiet (with_probe c (heard_at c.probe bus clock)) Done)
    (leave c Done)
