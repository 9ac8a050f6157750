-- The verdict on a frame comes to what allow says.
use mathlib.Core.Path.{◌≡◌, refl}
use mathlib.Core.Bool.{Bool, true, false, cond, not, ◌&&◌}
use Prim.Native.Nat.{ℕ}
use lib.Dec.{eqb}
use Rattle.std.specs.Prelude.{Option, Some, None}
use Rattle.frames.specs.declared.CanFrame.{CanFrame}
use Rattle.frames.specs.declared.TxClass.{TxClass}
use Rattle.frames.specs.declared.TxClass.TheVariants.{Platform, Command}
use Rattle.frames.specs.Frames.{can_id_in_range}
use Rattle.state.specs.declared.Core.{Core}
use Rattle.state.specs.declared.Said.{Said}
use Rattle.state.specs.declared.Answer.TheVariants as Answer
use Rattle.state.specs.Replies.{leave, quiet, yes_no}
use Rattle.state.specs.Checks.{checked}
use Rattle.probe_window.specs.Window.{is_open, unsent_in}
use Rattle.policy.specs.Policy.{is_bus_read_only}
use Rattle.can_tx.specs.declared.Verdict.{Verdict}
use Rattle.can_tx.specs.declared.Verdict.TheVariants.{Passes, Denied, BadFrame}
use Rattle.can_tx.specs.Tx.{passed, through_window, allow_platform, allows_command, allow_class, allow}
use Rattle.can_tx.specs.Verdict.{found_as, window_verdict, platform_verdict, class_verdict, verdict, said_by}

module _ (c : Core) where
  either_said : (b : Bool) (x y : Verdict) (o q : Said) → said_by c x ≡ o → said_by c y ≡ q → said_by c (cond b x y) ≡ cond b o q
  either_said true x y o q e f = e
  either_said false x y o q e f = f

  found_said : (u : Option ℕ) → said_by c (found_as u) ≡ passed c u
  unfolding leave quiet
  found_said None = refl
  found_said (Some i) = refl

  window_said : (bus : ℕ) (frame : CanFrame) (clock : ℕ) → said_by c (window_verdict c bus frame clock) ≡ through_window c bus frame clock
  unfolding window_verdict through_window leave quiet
  window_said bus frame clock =
      let u = unsent_in c.probe.window frame in
      either_said (eqb frame.bus bus && eqb frame.dlc 8 && is_open c.policy c.probe bus clock) (found_as u) Denied (passed c u) (leave c Answer.No) (found_said u) refl

  platform_said : (bus : ℕ) (frame : CanFrame) (clock : ℕ) → said_by c (platform_verdict c bus frame clock) ≡ allow_platform c bus frame clock
  unfolding platform_verdict allow_platform leave quiet
  platform_said bus frame clock =
      either_said (is_bus_read_only c.policy bus) (window_verdict c bus frame clock) Passes (through_window c bus frame clock) (leave c Answer.Yes) (window_said bus frame clock) refl

  command_said : (b : Bool) → said_by c (cond b Passes Denied) ≡ leave c (yes_no b)
  unfolding leave quiet
  command_said true = refl
  command_said false = refl

  class_said : (bus : ℕ) (frame : CanFrame) (validated : Bool) (clock : ℕ) (class : TxClass) → said_by c (class_verdict c bus frame validated clock class) ≡ allow_class c bus frame validated clock class
  class_said bus frame validated clock Platform = platform_said bus frame clock
  class_said bus frame validated clock Command = command_said (allows_command c.policy bus frame validated)

  id_said : (b : Bool) (x : Verdict) (o : Said) → said_by c x ≡ o → said_by c (cond b x BadFrame) ≡ cond (not b) (leave c Answer.BadFrame) o
  unfolding leave quiet
  id_said true x o e = e
  id_said false x o e = refl

  pub decided_so : (bus : ℕ) (frame : CanFrame) (class : TxClass) (validated : Bool) (clock : ℕ) → said_by c (verdict c bus frame class validated clock) ≡ allow c bus frame class validated clock
  unfolding verdict allow checked
  decided_so bus frame class validated clock =
      id_said (can_id_in_range frame.id) (class_verdict c bus frame validated clock class) (allow_class c bus frame validated clock class) (class_said bus frame validated clock class)
