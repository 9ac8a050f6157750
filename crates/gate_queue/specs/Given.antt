-- What functions of the code give.
use Rattle.std.specs.Prelude.{cond, List, [], ℕ}
use Rattle.frames.specs.declared.CanFrame.{CanFrame}
use Rattle.frames.specs.declared.TxClass.{TxClass}
use Rattle.waiting_list.specs.declared.Waiting.{Waiting}
use Rattle.state.specs.declared.Answer.{Answer}
use Rattle.state.specs.declared.Answer.TheVariants.{Done, BadSettings}
use Rattle.state.specs.declared.Gate.{Gate}
use Rattle.state.specs.declared.Outcome.{Outcome}
use Rattle.state.specs.declared.Ran.{Ran}
use Rattle.state.specs.View.{view, lists_in}
use Rattle.range.specs.Range.{in_range}
use Rattle.can_queue.specs.declared.Sent.{Sent}
use Rattle.can_turns.specs.declared.Run.{Run}
use Rattle.can_queue.specs.Calls.{Sending, unsent, sending}
use Rattle.can_turns.specs.Turns.{no_turn, serving, report_of}
use Rattle.can_queue.specs.Steps.{sent_by}
use Rattle.can_turns.specs.Steps.{run_of}
use Rattle.outcomes.specs.Settled.{queued}
use Rattle.gate_queue.specs.declared.SentOn.{SentOn}
use Rattle.gate_queue.specs.declared.RanOn.{RanOn}

-- ---- sending

abbrev pub sending_of : Gate → Sent → SentOn
sending_of g x = record { outcome = queued g x.answer g.core x.queue; all = x.all }

-- 25, or what is said of a gate in range
unfoldable pub sending_on : Gate → Sending → Sending
sending_on g x = cond (in_range (view g)) x (unsent g.queue BadSettings)

abbrev pub sent_of : Gate → List Waiting → CanFrame → TxClass → List ℕ → SentOn
sent_of g ws frame class owner = sending_of g (sent_by ws (sending_on g (sending g.queue ws frame class owner)))

-- of a list of another length: as of one with no record
abbrev pub unsent_of : Gate → CanFrame → TxClass → List ℕ → Outcome
unsent_of g frame class owner = queued g (sending_on g (sending g.queue [] frame class owner)).answer g.core g.queue

-- ---- serving

abbrev pub ran_of : Gate → Answer → Run → RanOn
ran_of g a x = record { ran = record { outcome = queued g a x.core x.queue; report = x.report }; all = x.all }

unfoldable pub served_of : Gate → List Waiting → ℕ → ℕ → RanOn
served_of g ws n clock =
    cond (in_range (view g))
    (ran_of g Done (run_of (serving g.core (lists_in g.phones) g.queue ws n clock)))
    (ran_of g BadSettings (run_of (no_turn g.core g.queue ws)))

abbrev pub unserved_of : Gate → Ran
unserved_of g = record { outcome = queued g (cond (in_range (view g)) Done BadSettings) g.core g.queue; report = report_of [] }
