-- The rounds: a call as `step` defines it, many times over, and the sum over what was seen.
use Rattle.std.specs.Prelude.{ℕ, zero, suc, ◌%◌, List, [], replicate}
use Rattle.frames.specs.declared.CanFrame.{CanFrame}
use Rattle.frames.specs.declared.TxClass.{TxClass}
use Rattle.state.specs.declared.Gate.{Gate}
use Rattle.state.specs.declared.Outcome.{Outcome}
use Rattle.state.specs.declared.Answer.TheVariants.{Done}
use Rattle.state.specs.Replies.{no_signals}
use Rattle.waiting_list.specs.declared.Waiting.{Waiting}
use Rattle.answers.specs.Query.{plain, approval, access, phones, trust, peer, phone_access, methods, challenge, saved, preview, report, encode_phone_validations}
use Rattle.definition.specs.Gate.{PackedReply, Given, given, step, start_validation, submit_validation_code, on_lists, on_queue, on_core, ask, allow_can_tx, restore_phone_validations, send_can_frame, serve_can_frames, Lent}
use Rattle.definition.specs.Gate as Gate
use Rattle.bench_calls.specs.declared.held.Run.{Run}
use Rattle.bench_calls.specs.Seen.{add, record_byte, raised, answer_seen, report_seen}
use Rattle.bench_calls.specs.Held.{list, emptied}

-- what is seen of a reply: an answer, a byte of a record, or a run's report
abbrev pub told_by : PackedReply → ℕ → ℕ
told_by (plain a) i = answer_seen a
told_by (approval a) i = 0
told_by (access a) i = 0
told_by (phones a ps) i = 0
told_by (trust a) i = 0
told_by (peer a) i = 0
told_by (phone_access a) i = 0
told_by (methods a) i = 0
told_by (challenge a) i = 0
told_by (saved a) i = record_byte a.stored i
told_by (preview a paired store n) i = 0
told_by (report a r) i = add (answer_seen a) (report_seen r)

-- the sum and the gate after a call that gave `g` at turn i
abbrev pub after : ℕ → Given → ℕ → Run
after sum g i = record { gate = g.gate; sum = add sum (add (told_by g.answer i) (raised g.signals i)) }

abbrev pub started : List ℕ → List ℕ → List ℕ → Run → ℕ → Run
started phone method random r i = after r.sum (step r.gate (start_validation phone method i random)) i

abbrev pub submitted : List ℕ → List ℕ → Run → ℕ → Run
submitted phone typed r i = after r.sum (step r.gate (submit_validation_code phone typed i)) i

abbrev pub tried : List ℕ → List ℕ → List ℕ → List ℕ → Run → ℕ → Run
tried phone method random typed r i = submitted phone typed (started phone method random r i) i

abbrev pub allowed : CanFrame → TxClass → List ℕ → Run → ℕ → Run
allowed frame class owner r i = after r.sum (step r.gate (on_core (allow_can_tx frame.bus frame class owner i))) i

abbrev pub restored : List ℕ → Run → ℕ → Run
restored bytes r i = after r.sum (step r.gate (on_lists (restore_phone_validations bytes))) i

-- the least that a call does: other digits, and nothing raised
abbrev pub least : Gate → ℕ → Outcome
least g i = record { answer = Done; signals = no_signals; gate = record { core = g.core; phones = g.phones; save = g.save; queue = g.queue; code = replicate 9 (i % 256) } }

abbrev pub floored : Run → ℕ → Run
floored r i = after r.sum (given (least r.gate i)) i

-- the same after a query, which raises nothing
abbrev pub heard : ℕ → Given → ℕ → Run
heard sum g i = record { gate = g.gate; sum = add sum (told_by g.answer i) }

abbrev pub encoded : Run → ℕ → Run
encoded r i = heard r.sum (step r.gate (ask encode_phone_validations)) i

-- ---- frames that wait

-- a round's gate and sum, and the list that it lends
pub record Lending : Type 0 where
  pub run : Run
  pub list : List Waiting

abbrev pub records_in : Lent → List Waiting
records_in Gate.nothing = []
records_in (Gate.bytes b) = []
records_in (Gate.records l) = l

-- the same after a call that gave `g`, with the list as it left it
abbrev pub after_lent : ℕ → Given → ℕ → Lending
after_lent sum g i = record { run = after sum g i; list = records_in g.lent }

abbrev pub sent : CanFrame → TxClass → List ℕ → Lending → ℕ → Lending
sent frame class owner r i = after_lent r.run.sum (step r.run.gate (on_queue (send_can_frame r.list frame class owner))) i

-- a run of one turn
abbrev pub served : Lending → ℕ → Lending
served r i = after_lent r.run.sum (step r.run.gate (on_queue (serve_can_frames r.list 1 i))) i

-- a frame sent, and none waiting afterwards
abbrev pub cleared : Lending → Lending
cleared r = record { run = record { gate = emptied r.run.gate; sum = r.run.sum }; list = r.list }

abbrev pub sent_first : CanFrame → TxClass → List ℕ → Lending → ℕ → Lending
sent_first frame class owner r i = cleared (sent frame class owner r i)

-- a frame sent, and served
abbrev pub passed : CanFrame → TxClass → List ℕ → Lending → ℕ → Lending
passed frame class owner r i = served (sent frame class owner r i) i

-- ---- n turns, from a gate whose sum is 0 at first

abbrev pub first : Gate → Run
first g = record { gate = g; sum = 0 }

abbrev pub first_lent : Gate → Lending
first_lent g = record { run = first g; list = list }

unfoldable pub turns : {A : Type 0} → (A → ℕ → A) → A → ℕ → A
turns f r zero = r
turns f r (suc i) = f (turns f r i) i

abbrev pub sum_of : (Run → ℕ → Run) → Gate → ℕ → ℕ
sum_of f g n = (turns f (first g) n).sum

abbrev pub sum_lent : (Lending → ℕ → Lending) → Gate → ℕ → ℕ
sum_lent f g n = (turns f (first_lent g) n).run.sum
