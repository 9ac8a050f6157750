-- What an operation may do to a core: its settings stay, digits are marked only where they are hidden, and each code judged wrong
-- costs one of the tries.
use mathlib.Core.Path.{◌≡◌, refl}
use mathlib.Core.Bool.{Bool, true, false, cond, true≢false, and-false, and-eq-true_iff}
use mathlib.Core.List.{List}
use Prim.Native.Nat.{ℕ, ◌+◌, ◌≤◌, zero-le}
use native.Mathlib.Omega.{arith}
use lib.Dec.{ltb}
use Rattle.phones.specs.Ids.{some_of}
use Rattle.state.specs.declared.Status.{Status}
use Rattle.state.specs.declared.Status.TheVariants.{Cancelled, TimedOut}
use Rattle.state.specs.declared.Methods.{Methods}
use Rattle.state.specs.declared.Session.{Session}
use Rattle.state.specs.declared.Core.{Core}
use Rattle.state.specs.declared.Queue.{Queue}
use Rattle.state.specs.declared.Answer.{Answer}
use Rattle.state.specs.declared.Answer.TheVariants.{No}
use Rattle.state.specs.declared.Raised.{Raised}
use Rattle.state.specs.declared.Mark.{Mark}
use Rattle.state.specs.declared.Mark.TheVariants.{Blank, Kept, Fresh}
use Rattle.state.specs.declared.Said.{Said}
use Rattle.state.specs.declared.Ended.{Ended}
use Rattle.state.specs.Answers.{values}
use Rattle.state.specs.Running.{is_running, in_progress, code_in_progress, method_at}
use Rattle.state.specs.Replies.{nothing_raised, phone_access_changed, leave, reply, notified, finish}
use Rattle.state.specs.View.{Lists, View}
use Rattle.waiting_list.specs.declared.Waiting.{Waiting}
use Rattle.can_turns.specs.Turns.{serving}
use Rattle.range.proofs.Laws.{within_is}
use Rattle.range.specs.Range.{core_fits, tries_fit, in_range}
use Rattle.std.specs.Prelude.{Option, Some, None}
use Rattle.session.specs.Session.{ended_as, lapse_of, cannot_go_on}
use Rattle.validation.specs.Calls.{end_session, ticked_as, tick, ticking, refilled, succeed, succeeded_core, cancel, is_action, completed, complete}
use Rattle.definition.specs.Gate as Gate
use Rattle.definition.specs.Gate.{SessionCall, CoreCall, ended, said}
use Rattle.footprint.proofs.Keeps.{either, each_check}
use Rattle.footprint.proofs.Core.{Beside, core_beside}
use Rattle.footprint.proofs.Queue.{serving_keeps}
use Rattle.two_runs.specs.Demand.{code_runs}
use Rattle.two_runs.specs.Refills.{session_refills}

-- ---- where digits may stand

-- a challenge that shows digits tells their number
abbrev pub Shown : ℕ → ℕ → Mark → Type 0
Shown n length Blank = Unit {0}
Shown n length Kept = length ≡ n
Shown n length Fresh = length ≡ n

-- digits are kept only if a CodeEntry session runs afterwards exactly if one ran before, and are new only if one runs afterwards
abbrev pub Marked : Core → Core → Mark → Type 0
Marked c c' Blank = Unit {0}
Marked c c' Kept = code_runs c' ≡ code_runs c
Marked c c' Fresh = code_runs c' ≡ true

pub record Fit (c : Core) (o : Said) : Type 0 where
  pub settings : o.core.settings ≡ c.settings
  pub shows : Shown c.settings.digits o.raised.challenge.challenge.length o.shows
  pub code : Marked c o.core o.code

-- ---- tries

-- the gate's tries left, while a CodeEntry session runs; 0 where none runs
abbrev pub tries_left : Core → ℕ
tries_left c = cond (code_runs c) c.validation.tries 0

-- an operation that judges `wrong` codes wrong: it takes them from what the session has left, and unless it refills the tries from what
-- the gate has left
pub record Turn (c : Core) (wrong : ℕ) (refills : Bool) (o : Said) : Type 0 where
  pub fit : Fit c o
  pub paid : wrong + tries_left o.core ≤ tries_left c
  pub kept : refills ≡ false → wrong + o.core.validation.tries ≤ c.validation.tries

-- ---- what a gate in range has left: from 1 to the set number of tries

pub tries_fit_lem : (v : View) → in_range v ≡ true → (1 ≤ v.core.validation.tries) × (v.core.validation.tries ≤ v.core.settings.tries)
unfolding in_range core_fits tries_fit
tries_fit_lem v f = within_is _ _ _ (simp and-eq-true_iff at f).0.0.0.0.0.1

-- ---- an operation that keeps the settings, the methods and the session

pub turn_beside : {f : Bool} (c : Core) (o : Said) → Beside c o → Turn c 0 f o
unfolding code_runs code_in_progress method_at
turn_beside c o b =
    let r : code_runs o.core ≡ code_runs c = rw (b.methods, b.validation) in
    record {
      fit = record { settings = b.settings; shows = rw b.shows tt; code = rw b.code r };
      paid = rw (r, b.validation) (omega arith);
      kept = λ z. rw b.validation (omega arith);
    }

pub turn_core : (c : Core) (l : Lists) (k : CoreCall) → Turn c 0 false (said c l k)
turn_core c l k = turn_beside c (said c l k) (core_beside c l k)

-- a run of turns keeps them too
pub record Served (c d : Core) : Type 0 where
  pub settings : d.settings ≡ c.settings
  pub runs : code_runs d ≡ code_runs c
  pub validation : d.validation ≡ c.validation

pub turn_serving : (c : Core) (l : Lists) (q : Queue) (ws : List Waiting) (n clock : ℕ) → Served c (serving c l q ws n clock).core
unfolding code_runs code_in_progress method_at some_of
turn_serving c l q ws n clock =
    let e = serving_keeps c l q ws n clock in
    let methods : (serving c l q ws n clock).core.methods.list ≡ c.methods.list = λ i. (e i).methods.list in
    let validation : (serving c l q ws n clock).core.validation ≡ c.validation = λ i. (e i).validation in
    record { settings = λ i. (e i).settings; runs = rw (methods, validation); validation = validation }

turn_reply : {f : Bool} (c : Core) (a : Answer) (r : Raised) → Turn c 0 f (reply c a r)
unfolding reply
turn_reply c a r = turn_beside c _ (record { settings = refl; methods = refl; count = refl; validation = refl; shows = refl; code = refl })

pub turn_leave : {f : Bool} (c : Core) (a : Answer) → Turn c 0 f (leave c a)
unfolding leave reply
turn_leave c a = turn_reply c a nothing_raised

pub turn_notified : {f : Bool} (c : Core) (a : Answer) → Turn c 0 f (notified c a)
unfolding notified
turn_notified c a = turn_reply c a phone_access_changed

-- ---- an operation that ends the session

ended_stops : (s : Session) (m : Methods) → is_running s.status ≡ false → code_in_progress m s ≡ false
unfolding code_in_progress in_progress
ended_stops s m e = rw (e, and-false)

pub turn_ends : {f : Bool} (c c' : Core) (w : ℕ) (a : Answer) (r : Raised) → c'.settings ≡ c.settings → is_running c'.validation.session.status ≡ false
    → w ≤ tries_left c → (f ≡ false → w + c'.validation.tries ≤ c.validation.tries) → Turn c w f (finish c' a r)
unfolding finish code_runs
turn_ends c c' w a r p e h k =
    record { fit = record { settings = p; shows = tt; code = tt }; paid = rw (ended_stops c'.validation.session c'.methods e) (omega arith); kept = k }

-- a tick ends a session as Cancelled or TimedOut
pub turn_end : {f : Bool} (c : Core) (a : Answer) (status : Status) (clock : ℕ) → is_running status ≡ false → Turn c 0 f (end_session c a status clock)
unfolding end_session ended_as
turn_end c a status clock e = turn_ends c _ 0 a _ refl e zero-le (λ z. omega arith)

pub turn_succeed : (c : Core) (a : Answer) (clock : ℕ) → Turn c 0 true (succeed c a clock).said
unfolding succeed succeeded_core refilled ended_as
turn_succeed c a clock = turn_ends c _ 0 a _ refl refl zero-le (λ z. absurd (true≢false z))

-- ---- a session's calls

-- `P` holds of what a tick leads to if it holds where the session stays and where the tick ends it
pub lapse_as : (P : Option Status → Type 0) (c : Core) (clock : ℕ) → P None → ((status : Status) → is_running status ≡ false → P (Some status)) → P (lapse_of c clock)
unfolding lapse_of
lapse_as P c clock stays ends =
    let s = c.validation.session in
    either P (in_progress s) _ _ (either P (cannot_go_on c s) _ _ (ends Cancelled refl) (either P (ltb clock s.deadline) _ _ stays (ends TimedOut refl))) stays

-- a call of a session refills by its answer
abbrev TurnBy : Core → SessionCall → Said → Type 0
TurnBy c k o = Turn c 0 (session_refills k (values o.answer)) o

pub turn_session : (c : Core) (full : Bool) (k : SessionCall) → TurnBy c k (ended c full k).said
unfolding ended cancel tick complete completed leave succeed finish end_session
turn_session c full (Gate.cancel_validation phone clock) = each_check (λ o. Turn c 0 false o) (leave c) _ _ (turn_leave c) (turn_end c _ Cancelled clock refl)
turn_session c full (Gate.tick_validation clock) = lapse_as (λ l. Turn c 0 false (ticked_as c clock l)) c clock (turn_leave c _) (λ status e. turn_end c _ status clock e)
turn_session c full (Gate.complete_validation_action number clock) =
    let P : Ended → Type 0 = λ x. TurnBy c (Gate.complete_validation_action number clock) x.said in
    lapse_as (λ l. P (ticking c clock No (completed c number clock full) l)) c clock
    (either P (is_action c number) _ _ (either P full _ _ (turn_leave c _) (turn_succeed c _ clock)) (turn_leave c _))
    (λ status e. turn_end c _ status clock e)
