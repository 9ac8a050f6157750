-- The calls on the platform and the car's fingerprint (can.rs, can_access.rs).
use Rattle.std.specs.Prelude.{Bool, true, false, not, List, [], ◌∷◌, ℕ, unwrap_or, ltb, eqb, length, replicate}
use Rattle.car_digest.specs.CarDigest.{car_digest}
use Rattle.state.specs.declared.Core.{Core}
use Rattle.state.specs.declared.Answer.TheVariants.{Done, Yes, No, TooLarge}
use Rattle.state.specs.declared.Said.{Said}
use Rattle.state.specs.Parts.{with_policy, with_probe}
use Rattle.state.specs.Replies.{no_car, leave, quiet}
use Rattle.state.specs.Checks.{◌refuses◌, checked}
use Rattle.policy_changes.specs.Changes.{with_identity, identity_of, with_vehicle_read_only, policy_changed, relocked}

-- confirm_car_identity: the platform
unfoldable pub confirm_platform : Core → Said
confirm_platform c = policy_changed c Done (with_identity c.policy (identity_of c.policy.identity true c.policy.identity.car))

-- revoke_car_identity: the platform and the car are forgotten, and the buses relocked
unfoldable pub revoke_platform : Core → Said
revoke_platform c =
    policy_changed (with_probe c (relocked c.probe)) Done
    (record {
      identity = identity_of c.policy.identity false no_car;
      access = c.policy.access;
      buses = with_vehicle_read_only c.policy.buses true;
    })

abbrev pub empty : List ℕ → Bool
empty s = eqb (length s) 0

-- confirm_car_fingerprint; 23 above 4,096 bytes
unfoldable pub confirm_fingerprint : Core → List ℕ → Said
confirm_fingerprint c fingerprint =
    checked (leave c)
    ((ltb 4096 (length fingerprint) refuses TooLarge) ∷  -- 23
    (empty fingerprint refuses No) ∷  -- no if empty
    (not c.policy.identity.confirmed refuses No) ∷ [])  -- no if the platform is unconfirmed
    (policy_changed c Yes (with_identity c.policy (identity_of c.policy.identity c.policy.identity.confirmed (record { known = true; digest = unwrap_or (car_digest c.policy.identity.platform fingerprint) (replicate 32 0) }))))

-- ---- a host note: one item, no signal

unfoldable pub note_platform : Core → ℕ → Said
note_platform c number =
    quiet (with_policy c (with_identity c.policy (record { platform = number; confirmed = c.policy.identity.confirmed; car = c.policy.identity.car }))) Done
