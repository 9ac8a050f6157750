-- The calls on the approval (can_access.rs). Each raises the read-only state as it is afterwards.
use Rattle.std.specs.Prelude.{cond, not, [], ◌∷◌}
use Rattle.state.specs.declared.Car.{Car}
use Rattle.state.specs.declared.Core.{Core}
use Rattle.state.specs.declared.Answer.TheVariants.{Done, CarNotIdentified}
use Rattle.state.specs.declared.Said.{Said}
use Rattle.state.specs.Parts.{with_policy}
use Rattle.state.specs.Replies.{no_car, approval_changed, leave, reply}
use Rattle.state.specs.Checks.{◌refuses◌, checked}
use Rattle.policy.specs.Policy.{fingerprint_confirmed, is_read_only}
use Rattle.policy_changes.specs.Changes.{with_access, with_approval, policy_changed}

-- ---- approval

-- approve_can_read_write: "no longer clears the others" (W-207), so the store is not looked at
unfoldable pub approve : Core → Said
approve c =
    let car = c.policy.identity.car in
    let p = with_access c.policy (with_approval c.policy.access car) in
    checked (leave c)
    ((not (fingerprint_confirmed c.policy.identity) refuses CarNotIdentified) ∷ [])  -- 2
    (reply (with_policy c p) Done (approval_changed car (is_read_only p)))

-- revoke_can_read_write_approval
unfoldable pub revoke_approval : Core → Said
revoke_approval c =
    let p = with_access c.policy (with_approval c.policy.access no_car) in
    reply (with_policy c p) Done (approval_changed no_car (is_read_only p))

unfoldable pub known_or_none : Car → Car
known_or_none car = cond car.known car no_car

-- restore_can_read_write_approval: a digest, or none
unfoldable pub restore_approval : Core → Car → Said
restore_approval c car = policy_changed c Done (with_access c.policy (with_approval c.policy.access (known_or_none car)))
