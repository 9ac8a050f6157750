-- What the policy tells: identity, approval, locks, reasons (can.rs, can_access.rs).
use Rattle.std.specs.Prelude.{Bool, false, cond, not, ◌&&◌, ◌||◌, List, ℕ, ltb, get_or}
use Rattle.arrays.specs.Arrays.{same_bytes}
use Rattle.state.specs.declared.Car.{Car}
use Rattle.state.specs.declared.Identity.{Identity}
use Rattle.state.specs.declared.Access.{Access}
use Rattle.state.specs.declared.Buses.{Buses}
use Rattle.state.specs.declared.Policy.{Policy}
use Rattle.state.specs.Replies.{no_car}
use Rattle.policy.specs.declared.Approval.{Approval}
use Rattle.policy.specs.declared.Approval.TheVariants.{NotApproved, AwaitingCar, Approved, OtherCar}

-- is_car_fingerprint_confirmed: the platform is confirmed and the car known
unfoldable pub fingerprint_confirmed : Identity → Bool
fingerprint_confirmed i = i.confirmed && i.car.known

-- identified_car
unfoldable pub identified_car : Identity → Car
identified_car i = cond (fingerprint_confirmed i) i.car no_car

-- whether this car is the one identified now
unfoldable pub is_identified : Identity → List ℕ → Bool
is_identified i digest = fingerprint_confirmed i && same_bytes i.car.digest digest

-- has_can_dev_write_lock; is_can_dev_write_unlocked: never in a production build
unfoldable pub dev_lock : Access → Bool
dev_lock a = not a.production

unfoldable pub dev_unlocked : Access → Bool
dev_unlocked a = cond a.production false a.unlocked

-- the approval is there and is of the known car
unfoldable pub approved_car : Identity → Access → Bool
approved_car i a = a.approval.known && same_bytes a.approval.digest i.car.digest

-- allows_read_write
unfoldable pub allows_read_write : Policy → Bool
allows_read_write p = fingerprint_confirmed p.identity && approved_car p.identity p.access && (p.access.production || p.access.unlocked)

-- is_can_read_only: the vehicle's flag, logging, the platform unconfirmed, or read-write not allowed
unfoldable pub is_read_only : Policy → Bool
is_read_only p = p.buses.vehicle_read_only || p.buses.logging || not p.identity.confirmed || not (allows_read_write p)

-- is_can_fd_bus: never for a bus above 3
unfoldable pub is_fd_bus : Buses → ℕ → Bool
is_fd_bus b bus = cond (ltb bus 4) (get_or b.fd bus false) false

-- is_can_bus_read_only
unfoldable pub is_bus_read_only : Policy → ℕ → Bool
is_bus_read_only p bus = is_read_only p || is_fd_bus p.buses bus

-- can_read_write_approval: the approval compared with the identified car
unfoldable pub approval_of : Identity → Access → Approval
approval_of i a =
    cond a.approval.known
    (cond (fingerprint_confirmed i) (cond (same_bytes a.approval.digest i.car.digest) Approved OtherCar) AwaitingCar)
    NotApproved

-- can_read_only_reason: 1 to 7 in the source's order, 0 for none
abbrev pub approval_reason : Access → Approval → ℕ
approval_reason a NotApproved = 5
approval_reason a AwaitingCar = 5
approval_reason a Approved = cond (a.production || a.unlocked) 7 6
approval_reason a OtherCar = 4

unfoldable pub reason : Policy → ℕ
reason p =
    cond (is_read_only p)
    (cond p.buses.logging 1
    (cond p.identity.confirmed
    (cond (fingerprint_confirmed p.identity) (approval_reason p.access (approval_of p.identity p.access)) 3)
    2))
    0
