-- W-206: tries left belong to the gate, for every phone. Between two refills no more than the set number of codes is judged wrong,
-- whichever phones typed them.
use Rattle.std.specs.Prelude.{ℕ, Bool, true, false, ◌&&◌, ◌||◌, List, eqb}
use Rattle.state.specs.declared.Status.{Status}
use Rattle.state.specs.declared.Status.TheVariants.{InProgress, Succeeded, Failed, Cancelled, TimedOut}
use Rattle.state.specs.declared.Gate.{Gate}
use Rattle.state.specs.Answers.{Values, no_value, done, yes, no, none, count, platform, reason, seconds, session, taken, is_yes}
use Rattle.answers.specs.Query.{numbered_reply}
use Rattle.definition.specs.Gate.{PackedReply, SessionCall, cancel_validation, complete_validation_action, tick_validation, Call, new_gate_call, start_validation, submit_validation_code, on_session, on_lists, on_save, on_queue, on_core, ask}
use Rattle.two_runs.specs.Demand.{number_of, Within, Every, parts}

-- ---- the calls that refill: New gate, and a session's end as Succeeded or as Failed

abbrev pub is_failed : Status → Bool
is_failed InProgress = false
is_failed Succeeded = false
is_failed Failed = true
is_failed Cancelled = false
is_failed TimedOut = false

-- the answer shows a session that failed
abbrev pub shows_failed : Values → Bool
shows_failed no_value = false
shows_failed done = false
shows_failed yes = false
shows_failed no = false
shows_failed none = false
shows_failed (count n) = false
shows_failed (platform n) = false
shows_failed (reason n) = false
shows_failed (seconds n) = false
shows_failed (session r) = is_failed r.status
shows_failed (taken n end) = false

-- a submit that is not refused, or is answered 10 with Failed
abbrev pub submit_refills : ℕ → Values → Bool
submit_refills number v = eqb number 0 || eqb number 10 && shows_failed v

-- an action that is answered yes
abbrev pub session_refills : SessionCall → Values → Bool
session_refills (cancel_validation phone clock) v = false
session_refills (complete_validation_action number clock) v = is_yes v
session_refills (tick_validation clock) v = false

unfoldable pub refills : Call → PackedReply → Bool
refills (new_gate_call settings methods n) a = true
refills (start_validation phone method clock random) a = false
refills (submit_validation_code phone typed clock) a = submit_refills (number_of a) (numbered_reply a).values
refills (on_session k) a = session_refills k (numbered_reply a).values
refills (on_lists k) a = false
refills (on_save k) a = false
refills (on_queue k) a = false
refills (on_core k) a = false
refills (ask q) a = false

-- ---- the claim

-- a run cut behind each call that refills, the first part and the last too; from any gate, also one that gets 25
abbrev pub Refilled : Type 0
Refilled = (g : Gate) (cs : List Call) → Every Within (parts refills g.core.settings.tries 0 g cs)
