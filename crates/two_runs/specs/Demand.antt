-- Demand 3: two runs of one list of calls differ in nothing but the digits of the drawn code, and no session judges more
-- codes wrong than tries were set. `Demand3`, at the end, is the whole claim.
use Rattle.std.specs.Prelude.{ℕ, zero, suc, ◌+◌, ◌≤◌, ◌≡◌, Bool, true, false, cond, ◌&&◌, List, [], ◌∷◌, map, is_some, eqb}
use Rattle.state.specs.declared.Core.{Core}
use Rattle.state.specs.declared.Gate.{Gate}
use Rattle.state.specs.declared.Challenge.{Challenge}
use Rattle.state.specs.declared.Signals.{Signals}
use Rattle.state.specs.declared.Method.{Method}
use Rattle.state.specs.declared.Settings.{Settings}
use Rattle.state.specs.Running.{code_in_progress}
use Rattle.state.specs.View.{view}
use Rattle.range.specs.Range.{in_range}
use Rattle.draw.specs.Draw.{drawn}
use Rattle.text.specs.Text.{is_text, right}
use Rattle.validation.specs.Calls.{draws, tick}
use Rattle.answers.specs.Query as Query
use Rattle.answers.specs.Query.{Query, numbered_reply}
use Rattle.definition.specs.Gate.{PackedReply, SessionCall, ListCall, SaveCall, QueueCall, CoreCall, Call, new_gate_call, start_validation, submit_validation_code, on_session, on_lists, on_save, on_queue, on_core, ask, Given, is_lent, step, after}

-- ---- what is left out: the digits, and not their number

-- the first n bytes of a code become 0, the others are kept
unfoldable pub blanked : ℕ → List ℕ → List ℕ
blanked zero code = code
blanked (suc n) [] = []
blanked (suc n) (b ∷ bs) = 0 ∷ blanked n bs

-- the code length stands in the core, and is kept
unfoldable pub hide_gate : Gate → Gate
hide_gate g = record { core = g.core; phones = g.phones; save = g.save; queue = g.queue; code = blanked g.core.settings.digits g.code }

unfoldable pub hide_challenge : Challenge → Challenge
hide_challenge c = record { running = c.running; session = c.session; method = c.method; length = c.length; code = blanked c.length c.code }

unfoldable pub hide_signals : Signals → Signals
hide_signals s = record {
  access = s.access;
  availability = s.availability;
  readonly = s.readonly;
  approval = s.approval;
  validations = s.validations;
  challenge = record { sent = s.challenge.sent; challenge = hide_challenge s.challenge.challenge };
}

abbrev pub hide_reply : PackedReply → PackedReply
hide_reply (Query.plain a) = Query.plain a
hide_reply (Query.approval a) = Query.approval a
hide_reply (Query.access a) = Query.access a
hide_reply (Query.phones a ps) = Query.phones a ps
hide_reply (Query.trust a) = Query.trust a
hide_reply (Query.peer a) = Query.peer a
hide_reply (Query.phone_access a) = Query.phone_access a
hide_reply (Query.methods a) = Query.methods a
hide_reply (Query.challenge a) = Query.challenge (record { answer = a.answer; challenge = hide_challenge a.challenge })
hide_reply (Query.saved a) = Query.saved a
hide_reply (Query.preview a paired store n) = Query.preview a paired store n
hide_reply (Query.report a r) = Query.report a r

-- a call's whole outcome without the digits; lent memory is compared whole
unfoldable pub seen : Given → Given
seen o = record { numbered = o.numbered; answer = hide_reply o.answer; signals = hide_signals o.signals; lent = o.lent; gate = hide_gate o.gate }

-- ---- runs

-- each call is lent the gate as the call before it left it
abbrev pub run : Gate → List Call → List Given
run g [] = []
run g (c ∷ cs) = step g c ∷ run (after g c) cs

-- a CodeEntry session is InProgress
unfoldable pub code_runs : Core → Bool
code_runs c = code_in_progress c.methods c.validation.session

-- a start comes to its draw: 25 does not meet it, its method is CodeEntry and nothing before 7 refuses it
unfoldable pub comes_to_draw : Gate → List ℕ → List ℕ → ℕ → Bool
comes_to_draw g phone method clock = in_range (view g) && draws g.core phone method clock

-- a CodeEntry session is InProgress after the tick of a submit
unfoldable pub judges : Gate → ℕ → Bool
judges g clock = in_range (view g) && code_runs (tick g.core clock).core

-- whether typed bytes are right, for the run's own code
abbrev pub is_right : Gate → List ℕ → Bool
is_right g typed = right g.code g.core.settings.digits typed

-- whether a draw gives a code
abbrev pub gives : Gate → List ℕ → Bool
gives g random = is_some (drawn random g.core.settings.digits)

-- The call at one place of the list in both runs, whose gates there are g and h: every argument is shared, but a start's
-- random bytes and a submit's typed bytes. What is asked of these: of a start that comes to its draw, bytes are lent in both
-- runs or neither, and give a code in both or neither; of a submit, they are text in both or neither, and, if they are text
-- and a CodeEntry session is InProgress after the tick, right in both or neither. A gate that gets 25 asks nothing.
pub data Alike (g h : Gate) : Call → Call → Type 0 where
  starts : (phone method : List ℕ) (clock : ℕ) (random random' : List ℕ)
      → (comes_to_draw g phone method clock ≡ true → (is_lent random ≡ is_lent random') × (gives g random ≡ gives h random'))
      → Alike g h (start_validation phone method clock random) (start_validation phone method clock random')
  submits : (phone : List ℕ) (clock : ℕ) (typed typed' : List ℕ)
      → (in_range (view g) ≡ true → is_text typed ≡ is_text typed')
      → (is_text typed ≡ true → judges g clock ≡ true → is_right g typed ≡ is_right h typed')
      → Alike g h (submit_validation_code phone typed clock) (submit_validation_code phone typed' clock)
  news : (settings : Settings) (methods : List Method) (count : ℕ) → Alike g h (new_gate_call settings methods count) (new_gate_call settings methods count)
  session_calls : (k : SessionCall) → Alike g h (on_session k) (on_session k)
  list_calls : (k : ListCall) → Alike g h (on_lists k) (on_lists k)
  save_calls : (k : SaveCall) → Alike g h (on_save k) (on_save k)
  queue_calls : (k : QueueCall) → Alike g h (on_queue k) (on_queue k)
  core_calls : (k : CoreCall) → Alike g h (on_core k) (on_core k)
  asks : (q : Query) → Alike g h (ask q) (ask q)

-- Two runs of one list of calls from the gates g and h.
pub data TwoRuns : Gate → Gate → List Call → List Call → Type 0 where
  end : {g h : Gate} → TwoRuns g h [] []
  next : {g h : Gate} {c d : Call} {cs ds : List Call} → Alike g h c d → TwoRuns (after g c) (after h d) cs ds → TwoRuns g h (c ∷ cs) (d ∷ ds)

-- ---- sessions: from a start that is not refused to the next such start; the calls before the first make up one too

-- document 01's number of the answer that a reply is or begins with; 0 for one that is no refusal
abbrev pub number_of : PackedReply → ℕ
number_of r = (numbered_reply r).number

-- a code is judged wrong where submit answers 10
unfoldable pub judged_wrong : Call → PackedReply → ℕ
judged_wrong (new_gate_call settings methods count) a = 0
judged_wrong (start_validation phone method clock random) a = 0
judged_wrong (submit_validation_code phone typed clock) a = cond (eqb (number_of a) 10) 1 0
judged_wrong (on_session k) a = 0
judged_wrong (on_lists k) a = 0
judged_wrong (on_save k) a = 0
judged_wrong (on_queue k) a = 0
judged_wrong (on_core k) a = 0
judged_wrong (ask q) a = 0

-- a session begins with a start that is not refused
unfoldable pub begins : Call → PackedReply → Bool
begins (new_gate_call settings methods count) a = false
begins (start_validation phone method clock random) a = eqb (number_of a) 0
begins (submit_validation_code phone typed clock) a = false
begins (on_session k) a = false
begins (on_lists k) a = false
begins (on_save k) a = false
begins (on_queue k) a = false
begins (on_core k) a = false
begins (ask q) a = false

-- of a part of a run: the tries set when it began, and the codes judged wrong in it
pub record Tally : Type 0 where
  pub tries : ℕ
  pub wrong : ℕ

-- a run in parts, cut behind each call of which `cuts` is true; `tries` and `count` are those of the part so far
abbrev pub parts : (Call → PackedReply → Bool) → ℕ → ℕ → Gate → List Call → List Tally
parts cuts tries count g [] = record { tries = tries; wrong = count } ∷ []
parts cuts tries count g (c ∷ cs) = elim (cuts c (step g c).answer) [
  | true ↦ record { tries = tries; wrong = count + judged_wrong c (step g c).answer } ∷ parts cuts (after g c).core.settings.tries 0 (after g c) cs
  | false ↦ parts cuts tries (count + judged_wrong c (step g c).answer) (after g c) cs
]

-- the sessions of a run, in order; a start itself judges no code
abbrev pub sessions : ℕ → ℕ → Gate → List Call → List Tally
sessions = parts begins

abbrev pub Within : Tally → Type 0
Within t = t.wrong ≤ t.tries

-- P holds of each element
pub data Every {A : Type 0} (P : A → Type 0) : List A → Type 0 where
  nil : Every P []
  both : {x : A} {xs : List A} → P x → Every P xs → Every P (x ∷ xs)

-- ---- the claim

-- gates that are equal but for the first n bytes of the code, where n is the code length, whether or not a session runs
abbrev pub EqualButDigits : Gate → Gate → Type 0
EqualButDigits g h = hide_gate g ≡ hide_gate h

-- the narrower reading: and equal outright unless a CodeEntry session is InProgress
abbrev pub AlikeGates : Gate → Gate → Type 0
AlikeGates g h = EqualButDigits g h × (code_runs g.core ≡ false → g ≡ h)

-- the gates that two runs leave behind are alike at every place
pub data StayAlike : List Given → List Given → Type 0 where
  over : StayAlike [] []
  place : {o p : Given} {os ps : List Given} → AlikeGates o.gate p.gate → StayAlike os ps → StayAlike (o ∷ os) (p ∷ ps)

-- at every place of the list the whole answer, the signals, lent memory and the gate left behind are equal but for the digits
abbrev pub LookAlike : List Given → List Given → Type 0
LookAlike os ps = map seen os ≡ map seen ps

-- First gates are any, also such as get 25, and a new gate may stand anywhere in the list. `limited` is said of any one run.
pub record Demand3 : Type 0 where
  pub secret : (g h : Gate) (cs ds : List Call) → AlikeGates g h → TwoRuns g h cs ds
      → LookAlike (run g cs) (run h ds) × StayAlike (run g cs) (run h ds)
  pub secret_wide : (g h : Gate) (cs ds : List Call) → EqualButDigits g h → TwoRuns g h cs ds → LookAlike (run g cs) (run h ds)
  pub limited : (g : Gate) (cs : List Call) → Every Within (sessions g.core.settings.tries 0 g cs)
