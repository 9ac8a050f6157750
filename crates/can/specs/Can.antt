-- The calls on the buses: the vehicle's flag, and the host's notes (can.rs).
use Rattle.std.specs.Prelude.{Bool, cond, not, ◌||◌, ℕ, ltb, set}
use Rattle.state.specs.declared.Policy.{Policy}
use Rattle.state.specs.declared.Core.{Core}
use Rattle.state.specs.declared.Answer.TheVariants.{Done}
use Rattle.state.specs.declared.Said.{Said}
use Rattle.state.specs.Parts.{with_policy, with_probe}
use Rattle.state.specs.Replies.{leave, quiet, yes_no}
use Rattle.policy.specs.Policy.{fingerprint_confirmed, is_read_only}
use Rattle.policy_changes.specs.Changes.{with_buses, with_vehicle_read_only, policy_changed, relocked}

-- ---- the vehicle's flag

-- as asked, but a no is lost while logging or without the car
unfoldable pub lock_asked : Policy → Bool → Bool
lock_asked p enabled = enabled || p.buses.logging || not (fingerprint_confirmed p.identity)

-- set_can_read_only: answers the state that results; only a yes counts a relock
unfoldable pub set_read_only : Core → Bool → Said
set_read_only c enabled =
    let p = with_buses c.policy (with_vehicle_read_only c.policy.buses (lock_asked c.policy enabled)) in
    policy_changed (cond enabled (with_probe c (relocked c.probe)) c) (yes_no (is_read_only p)) p

-- ---- host notes: one item each, no signal

unfoldable pub note_logging : Core → Bool → Said
note_logging c on =
    quiet (with_policy c (with_buses c.policy (record { vehicle_read_only = c.policy.buses.vehicle_read_only; logging = on; fd = c.policy.buses.fd }))) Done

-- nothing for a bus above 3
unfoldable pub note_fd_bus : Core → ℕ → Bool → Said
note_fd_bus c bus on =
    cond (ltb bus 4)
    (quiet (with_policy c (with_buses c.policy (record { vehicle_read_only = c.policy.buses.vehicle_read_only; logging = c.policy.buses.logging; fd = set c.policy.buses.fd bus on }))) Done)
    (leave c Done)
