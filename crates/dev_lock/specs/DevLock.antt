-- The calls on the dev lock (can_access.rs). Each raises the read-only state as it is afterwards.
use Rattle.std.specs.Prelude.{Bool, true, [], ◌∷◌}
use Rattle.state.specs.declared.Core.{Core}
use Rattle.state.specs.declared.Answer.TheVariants.{Done, NoDevLock}
use Rattle.state.specs.declared.Said.{Said}
use Rattle.state.specs.Replies.{leave}
use Rattle.state.specs.Checks.{◌refuses◌, checked}
use Rattle.policy_changes.specs.Changes.{with_access, policy_changed}

-- set_can_dev_write_unlocked
unfoldable pub set_dev_unlocked : Core → Bool → Said
set_dev_unlocked c unlocked =
    checked (leave c)
    ((c.policy.access.production refuses NoDevLock) ∷ [])  -- 11
    (policy_changed c Done (with_access c.policy (record { approval = c.policy.access.approval; unlocked = unlocked; production = c.policy.access.production })))

-- declare_production_build
unfoldable pub declare_production : Core → Said
declare_production c =
    policy_changed c Done (with_access c.policy (record { approval = c.policy.access.approval; unlocked = c.policy.access.unlocked; production = true }))
