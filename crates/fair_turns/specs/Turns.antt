-- W-204: a run of turns, over `step`. `TurnsTaken`, `ByAllow` and `ClosedUp`, at the end, are the claims; what stands in quotes is 02's.
-- Which frame is next is `next_place` (waiting_list/specs/Queue.antt).
use Rattle.std.specs.Prelude.{ℕ, suc, ◌+◌, ◌-◌, ◌<◌, ◌≤◌, min, ◌≡◌, false, cond, ◌&&◌, List, [], ◌++◌, ◌≢◌, ltb, leb, length, take, get_or, replicate}
use Rattle.arrays.specs.Arrays.{padded}
use Rattle.phones.specs.Phones.{id_bytes, too_long}
use Rattle.waiting_list.specs.declared.Waiting.{Waiting}
use Rattle.waiting_list.specs.Queue.{record_at, waiting_of, bus_of, under_bus, next_place}
use Rattle.state.specs.declared.Gate.{Gate}
use Rattle.state.specs.declared.Answer.{Answer}
use Rattle.state.specs.declared.Answer.TheVariants.{Done, BadSettings}
use Rattle.state.specs.declared.Decided.{Decided}
use Rattle.state.specs.declared.Report.{Report}
use Rattle.state.specs.Answers.{numbered, is_yes}
use Rattle.state.specs.Replies.{no_signals}
use Rattle.state.specs.View.{view}
use Rattle.range.specs.Range.{in_range}
use Rattle.can_turns.specs.Turns.{turns_taken, no_decision, report_of}
use Rattle.answers.specs.Query as Query
use Rattle.definition.specs.Gate.{PackedReply, Call, on_queue, serve_can_frames, on_core, allow_can_tx, Lent, nothing, bytes, records, Given, step, after}
use Rattle.stays_in_range.specs.Stays.{InRange}

-- ---- what a host holds: the gate, and the list that it lends

pub record Host : Type 0 where
  pub gate : Gate
  pub list : List Waiting

abbrev pub count_of : Host → ℕ
count_of s = s.gate.queue.count

-- a list that a call is lent, as the call leaves it; a call that is lent none leaves it
abbrev pub list_after : List Waiting → Lent → List Waiting
list_after ws nothing = ws
list_after ws (bytes b) = ws
list_after ws (records l) = l

abbrev pub host_after : Host → Call → Host
host_after s k = record { gate = after s.gate k; list = list_after s.list (step s.gate k).lent }

-- where turns are taken: the gate is in range, and the list has sixteen records
pub record TakesTurns (s : Host) : Type 0 where
  pub ranged : InRange s.gate
  pub sixteen : length s.list ≡ 16

-- ---- a run

-- "A run is given a number of turns"
abbrev pub serve : Host → ℕ → ℕ → Call
serve s n clock = on_queue (serve_can_frames s.list n clock)

-- the report that a reply is; any other reply reports no turn
abbrev pub report_in : PackedReply → Report
report_in (Query.plain a) = report_of []
report_in (Query.approval a) = report_of []
report_in (Query.access a) = report_of []
report_in (Query.phones a ps) = report_of []
report_in (Query.trust a) = report_of []
report_in (Query.peer a) = report_of []
report_in (Query.phone_access a) = report_of []
report_in (Query.methods a) = report_of []
report_in (Query.challenge a) = report_of []
report_in (Query.saved a) = report_of []
report_in (Query.preview a paired store n) = report_of []
report_in (Query.report a r) = r

abbrev pub reported : Gate → Call → Report
reported g k = report_in (step g k).answer

-- its entries, those of the turns taken
abbrev pub entries : Gate → Call → List Decided
entries g k = take (reported g k).turns (reported g k).frames

-- before turn i of a run, the first being turn 0: as a run of i turns leaves gate and list
abbrev pub before_turn : Host → ℕ → ℕ → Host
before_turn s clock i = host_after s (serve s i clock)

-- ---- the next turn

-- the place that it takes
abbrev pub next_of : Host → ℕ
next_of s = next_place s.gate.queue.last (waiting_of s.list (count_of s))

-- "served, decided and reported under its bus modulo 4"
abbrev pub taken : Host → Waiting
taken s = under_bus (record_at s.list (next_of s))

-- an owner that the host altered to more than 32 bytes is no id. In a gate in range nobody has 33 bytes
abbrev pub owner_of : Waiting → List ℕ
owner_of w = cond (too_long w.owner) (replicate 33 0) (id_bytes w.owner)

-- "has allow decide it at that moment"
abbrev pub allowing : Waiting → ℕ → Call
allowing w clock = on_core (allow_can_tx w.frame.bus w.frame w.class (owner_of w) clock)

-- "with each frame and its yes or no"; "with no if allow refuses it"
abbrev pub decided : Host → ℕ → Decided
decided s clock = record { frame = (taken s).frame; allowed = is_yes (step s.gate (allowing (taken s) clock)).numbered.values }

-- the gate that allow leaves, with one frame fewer, and the bus last served
abbrev pub gate_after : Host → ℕ → Gate
gate_after s clock =
    let h = after s.gate (allowing (taken s) clock) in
    record { core = h.core; phones = h.phones; save = h.save; queue = record { count = count_of s - 1; last = (taken s).frame.bus }; code = h.code }

-- ---- the claims

-- no turn: this answer, gate and list as they were
abbrev pub none_taken : Host → Answer → Given
none_taken s a = record { numbered = numbered a; answer = Query.report a (report_of []); signals = no_signals; lent = records s.list; gate = s.gate }

pub record TurnsTaken : Type 0 where
  pub answer : (s : Host) (n clock : ℕ) → TakesTurns s → (step s.gate (serve s n clock)).answer ≡ Query.report Done (reported s.gate (serve s n clock))
  -- nothing is raised
  pub signals : (s : Host) (n clock : ℕ) → TakesTurns s → (step s.gate (serve s n clock)).signals ≡ no_signals
  -- "the turns taken, which is the smaller of that number and the frames waiting"
  pub turns : (s : Host) (n clock : ℕ) → TakesTurns s → (reported s.gate (serve s n clock)).turns ≡ min n (count_of s)
  -- as many as the definition takes, whatever the list
  pub defined : (s : Host) (n clock : ℕ) → InRange s.gate → (reported s.gate (serve s n clock)).turns ≡ turns_taken n s.gate.queue s.list
  -- no turn, be it that none is given or none waits: gate and list as they were
  pub no_turn : (s : Host) (n clock : ℕ) → InRange s.gate → turns_taken n s.gate.queue s.list ≡ 0 → step s.gate (serve s n clock) ≡ none_taken s Done
  -- "A list of another length takes .. no turns"
  pub other_length : (s : Host) (n clock : ℕ) → InRange s.gate → length s.list ≢ 16 → step s.gate (serve s n clock) ≡ none_taken s Done
  -- "25 if out of range"
  pub out_of_range : (s : Host) (n clock : ℕ) → in_range (view s.gate) ≡ false → step s.gate (serve s n clock) ≡ none_taken s BadSettings

-- turn i of a run of n
pub record Turn (s : Host) (n clock i : ℕ) : Type 0 where
  pub serves : TakesTurns (before_turn s clock i)
  pub entry : get_or (entries s.gate (serve s n clock)) i no_decision ≡ decided (before_turn s clock i) clock
  pub gate : (before_turn s clock (suc i)).gate ≡ gate_after (before_turn s clock i) clock

pub record ByAllow : Type 0 where
  -- the first turn finds gate and list as they are lent
  pub first : (s : Host) (clock : ℕ) → TakesTurns s → before_turn s clock 0 ≡ s
  pub turn : (s : Host) (n clock i : ℕ) → TakesTurns s → i < min n (count_of s) → Turn s n clock i
  -- past the turns taken a report has empty frames and no
  pub past : (s : Host) (n clock : ℕ) → (reported s.gate (serve s n clock)).frames ≡ padded 16 no_decision (entries s.gate (serve s n clock))
  -- a run of m + n turns is a run of m, then one of n, at one now
  pub joined : (s : Host) (m n clock : ℕ) → TakesTurns s → before_turn s clock (m + n) ≡ before_turn (before_turn s clock m) clock n
  pub reports : (s : Host) (m n clock : ℕ) → TakesTurns s
      → entries s.gate (serve s (m + n) clock) ≡ entries s.gate (serve s m clock) ++ entries (before_turn s clock m).gate (serve (before_turn s clock m) n clock)

-- the list as a turn leaves it
pub record Closed (before after : Host) : Type 0 where
  -- a frame that waits is taken, and one fewer waits
  pub waits : next_of before < count_of before
  pub count : count_of after ≡ count_of before - 1
  -- "the oldest frame of the next bus that has one": frames of one bus are decided in the order of their places
  pub oldest : (i : ℕ) → i < count_of before → bus_of (record_at before.list i) ≡ (taken before).frame.bus → next_of before ≤ i
  -- "later frames then move one place forward, and no other record changes"
  pub places : (i : ℕ)
      → record_at after.list i ≡ cond (ltb (suc i) (count_of before) && leb (next_of before) i) (record_at before.list (suc i)) (record_at before.list i)
  pub sixteen : length after.list ≡ 16

abbrev pub ClosedUp : Type 0
ClosedUp = (s : Host) (clock i : ℕ) → TakesTurns s → i < count_of s → Closed (before_turn s clock i) (before_turn s clock (suc i))
