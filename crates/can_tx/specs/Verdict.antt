-- What functions of the code give: the verdict on a frame, and what it comes to. What allow says is Tx.antt; `decided_so` (proofs/Laws.antt)
-- says that the verdict comes to that.
use Rattle.std.specs.Prelude.{Bool, cond, ◌&&◌, ℕ, Option, Some, None, eqb}
use Rattle.frames.specs.declared.CanFrame.{CanFrame}
use Rattle.frames.specs.declared.TxClass.{TxClass}
use Rattle.frames.specs.declared.TxClass.TheVariants.{Platform, Command}
use Rattle.frames.specs.Frames.{can_id_in_range}
use Rattle.state.specs.declared.Core.{Core}
use Rattle.state.specs.declared.Answer.{Answer}
use Rattle.state.specs.declared.Said.{Said}
use Rattle.state.specs.Parts.{with_probe, with_window}
use Rattle.state.specs.Replies.{quiet}
use Rattle.policy.specs.Policy.{is_bus_read_only}
use Rattle.probe_window.specs.Window.{is_open, unsent_in, marked_sent}
use Rattle.can_tx.specs.Tx.{allows_command}
use Rattle.can_tx.specs.declared.Verdict.{Verdict}
use Rattle.can_tx.specs.declared.Verdict.TheVariants.{Passes, Marks, Denied, BadFrame}

abbrev pub found_as : Option ℕ → Verdict
found_as None = Denied
found_as (Some i) = Marks i

-- through the window
unfoldable pub window_verdict : Core → ℕ → CanFrame → ℕ → Verdict
window_verdict c bus frame clock = cond (eqb frame.bus bus && eqb frame.dlc 8 && is_open c.policy c.probe bus clock) (found_as (unsent_in c.probe.window frame)) Denied

unfoldable pub platform_verdict : Core → ℕ → CanFrame → ℕ → Verdict
platform_verdict c bus frame clock = cond (is_bus_read_only c.policy bus) (window_verdict c bus frame clock) Passes

abbrev pub class_verdict : Core → ℕ → CanFrame → Bool → ℕ → TxClass → Verdict
class_verdict c bus frame validated clock Platform = platform_verdict c bus frame clock
class_verdict c bus frame validated clock Command = cond (allows_command c.policy bus frame validated) Passes Denied

unfoldable pub verdict : Core → ℕ → CanFrame → TxClass → Bool → ℕ → Verdict
verdict c bus frame class validated clock = cond (can_id_in_range frame.id) (class_verdict c bus frame validated clock class) BadFrame

abbrev pub answer_by : Verdict → Answer
answer_by Passes = Answer.Yes
answer_by (Marks i) = Answer.Yes
answer_by Denied = Answer.No
answer_by BadFrame = Answer.BadFrame

abbrev pub core_by : Core → Verdict → Core
core_by c Passes = c
core_by c (Marks i) = with_probe c (with_window c.probe (marked_sent c.probe.window i))
core_by c Denied = c
core_by c BadFrame = c

abbrev pub said_by : Core → Verdict → Said
said_by c v = quiet (core_by c v) (answer_by v)
