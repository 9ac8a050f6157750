-- A policy with one part changed, what is raised for it, and the relock count (can.rs, can_probe.rs).
use Rattle.std.specs.Prelude.{◌+◌, ◌%◌, ◌^◌, Bool}
use Rattle.state.specs.declared.Car.{Car}
use Rattle.state.specs.declared.Identity.{Identity}
use Rattle.state.specs.declared.Access.{Access}
use Rattle.state.specs.declared.Buses.{Buses}
use Rattle.state.specs.declared.Policy.{Policy}
use Rattle.state.specs.declared.Probe.{Probe}
use Rattle.state.specs.declared.Core.{Core}
use Rattle.state.specs.declared.Answer.{Answer}
use Rattle.state.specs.declared.Said.{Said}
use Rattle.state.specs.Parts.{with_policy, with_relocks}
use Rattle.state.specs.Replies.{read_only_changed, reply}
use Rattle.policy.specs.Policy.{is_read_only}

-- ---- a policy with one part changed

abbrev pub with_identity : Policy → Identity → Policy
with_identity p i = record { identity = i; access = p.access; buses = p.buses }

abbrev pub with_access : Policy → Access → Policy
with_access p a = record { identity = p.identity; access = a; buses = p.buses }

abbrev pub with_buses : Policy → Buses → Policy
with_buses p b = record { identity = p.identity; access = p.access; buses = b }

abbrev pub identity_of : Identity → Bool → Car → Identity
identity_of i confirmed car = record { platform = i.platform; confirmed = confirmed; car = car }

abbrev pub with_approval : Access → Car → Access
with_approval a approval = record { approval = approval; unlocked = a.unlocked; production = a.production }

abbrev pub with_vehicle_read_only : Buses → Bool → Buses
with_vehicle_read_only b flag = record { vehicle_read_only = flag; logging = b.logging; fd = b.fd }

-- ---- signals

-- notify_can_read_only_changed after a change of the policy
unfoldable pub policy_changed : Core → Answer → Policy → Said
policy_changed c a p = reply (with_policy c p) a (read_only_changed (is_read_only p))

-- ---- the relock count

-- note_relock: the count wraps
unfoldable pub relocked : Probe → Probe
relocked b = with_relocks b ((b.relocks + 1) % 2 ^ 32)
