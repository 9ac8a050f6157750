-- Frames that wait in a list that the host lends (02, W-204): a turn, and a run of turns. How the next is chosen and how the list
-- closes up: waiting_list/specs/Queue.antt.
use Rattle.std.specs.Prelude.{Bool, false, cond, not, ◌&&◌, List, [], ◌∷◌, ◌++◌, ℕ, zero, suc, ◌-◌, min, eqb, length, replicate}
use Rattle.arrays.specs.Arrays.{padded}
use Rattle.phones.specs.Phones.{id_bytes, too_long}
use Rattle.frames.specs.declared.Id.TheVariants.{Standard}
use Rattle.waiting_list.specs.declared.Waiting.{Waiting}
use Rattle.waiting_list.specs.Queue.{under_bus, waiting_of, record_at, next_place, closed_up}
use Rattle.state.specs.declared.Identity.{Identity}
use Rattle.state.specs.declared.Queue.{Queue}
use Rattle.state.specs.declared.Core.{Core}
use Rattle.state.specs.declared.Decided.{Decided}
use Rattle.state.specs.declared.Report.{Report}
use Rattle.state.specs.Answers.{values, is_yes}
use Rattle.state.specs.View.{Lists}
use Rattle.phone_trust.specs.Trust.{is_validated}
use Rattle.can_tx.specs.Tx.{allow}

-- ---- a turn

-- where a run stands: the gate's core, how many wait and the bus last served, the list, and what was decided so far, in order
pub record Serving : Type 0 where
  pub core : Core
  pub queue : Queue
  pub list : List Waiting
  pub decided : List Decided

-- an owner that the host altered to more than 32 bytes is no id, and unknown
unfoldable pub owner_validated : Identity → Lists → Waiting → Bool
owner_validated i l w = not (too_long w.owner) && is_validated i l (id_bytes w.owner)

-- "One turn takes the oldest frame of the next bus that has one, going round from 0 to 3, and has allow decide it at that moment; later
-- frames then move one place forward"; "with no if allow refuses it"
unfoldable pub turn : Lists → ℕ → Serving → Serving
turn l clock s =
    let q = s.queue in
    let p = next_place q.last (waiting_of s.list q.count) in
    let w = under_bus (record_at s.list p) in
    let o = allow s.core w.frame.bus w.frame w.class (owner_validated s.core.policy.identity l w) clock in
    record {
      core = o.core;
      queue = record { count = q.count - 1; last = w.frame.bus };
      list = closed_up s.list p q.count;
      decided = s.decided ++ (record { frame = w.frame; allowed = is_yes (values o.answer) } ∷ []);
    }

-- ---- a run

-- so many turns, the last of them outermost
unfoldable pub turns : Lists → ℕ → ℕ → Serving → Serving
turns l clock zero s = s
turns l clock (suc n) s = turn l clock (turns l clock n s)

-- "the smaller of that number and the frames waiting"; "A list of another length takes .. no turns"
unfoldable pub turns_taken : ℕ → Queue → List Waiting → ℕ
turns_taken n q ws = cond (eqb (length ws) 16) (min n q.count) 0

-- before the first turn
abbrev pub no_turn : Core → Queue → List Waiting → Serving
no_turn c q ws = record { core = c; queue = q; list = ws; decided = [] }

-- serve_can_frames: "A run is given a number of turns"
unfoldable pub serving : Core → Lists → Queue → List Waiting → ℕ → ℕ → Serving
serving c l q ws n clock = turns l clock (turns_taken n q ws) (no_turn c q ws)

-- ---- the report

abbrev pub no_decision : Decided
no_decision = record { frame = record { bus = 0; id = Standard 0; «data» = replicate 8 0; dlc = 0 }; allowed = false }

-- "reports the turns taken .. with each frame and its yes or no, in their order"; past them empty frames and no
unfoldable pub report_of : List Decided → Report
report_of ds = record { turns = length ds; frames = padded 16 no_decision ds }
