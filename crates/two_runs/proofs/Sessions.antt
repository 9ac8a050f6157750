-- What a start and a submit may do to a core, in the words of Turns: a start that is refused keeps the tries, and a wrong code takes one.
-- And where a verdict matters: a start looks at its random bytes only if it comes to its draw, and a submit at whether the code is right
-- only if it is text and a CodeEntry session runs after the tick.
use mathlib.Core.Path.{◌≡◌, refl, ap}
use mathlib.Core.Bool.{Bool, true, false, cond, not, ◌&&◌, true≢false}
use mathlib.Core.List.{List, [], ◌∷◌}
use Prim.Native.Nat.{ℕ, ◌+◌, ◌≤◌}
use native.Mathlib.Omega.{arith}
use lib.Dec.{eqb, ltb}
use Rattle.state.specs.declared.Kind.{Kind}
use Rattle.state.specs.declared.Kind.TheVariants.{CodeEntry, InCarAction}
use Rattle.state.specs.declared.Session.{Session}
use Rattle.state.specs.declared.Core.{Core}
use Rattle.state.specs.declared.Answer.{Answer}
use Rattle.state.specs.declared.Mark.TheVariants.{Blank, Fresh}
use Rattle.state.specs.declared.Said.{Said}
use Rattle.state.specs.declared.Ended.{Ended}
use Rattle.state.specs.Answers.{number, values}
use Rattle.state.specs.Running.{is_code, in_progress, code_in_progress, method_at}
use Rattle.state.specs.Replies.{leave, reply, notified, finish, challenge_changed}
use Rattle.state.specs.Checks.{Check, checked, unmet}
use Rattle.std.specs.Prelude.{Option, Some, None}
use Rattle.state.specs.declared.Status.{Status}
use Rattle.session.specs.Session.{reply_of, ended_as, is_of, place_of, lapse_of}
use Rattle.validation.specs.Calls.{start_checks, new_session, challenge_for, begin, start_as, start_at, start, draws, end_session, ticked_as, tick, ticking, unvalidated, runs_for, succeed, refilled, failed_core, tried_core, wrong, right_code, judge, judge_as, submitted, submit}
use Rattle.footprint.proofs.Keeps.{either, each_check}
use Rattle.two_runs.specs.Demand.{code_runs}
use Rattle.two_runs.specs.Refills.{submit_refills}
use Rattle.two_runs.proofs.Turns.{Fit, Turn, tries_left, turn_leave, turn_notified, turn_ends, turn_end, turn_succeed, lapse_as}

-- a CodeEntry session runs
runs_now : (c : Core) → in_progress c.validation.session ≡ true → (method_at c.methods c.validation.session.method).kind ≡ CodeEntry → code_runs c ≡ true
unfolding code_runs code_in_progress
runs_now c p k = rw (p, k)

-- ---- start

-- a refusal keeps the session's tries, and every start keeps the gate's
pub record Started (c : Core) (o : Said) : Type 0 where
  pub fit : Fit c o
  pub idle : eqb (number o.answer) 0 ≡ false → 0 + tries_left o.core ≤ tries_left c
  pub kept : 0 + o.core.validation.tries ≤ c.validation.tries

refused : (c : Core) (a : Answer) → Started c (leave c a)
refused c a = let t = turn_leave {f = false} c a in record { fit = t.fit; idle = λ e. t.paid; kept = t.kept refl }

module _ (c : Core) (phone : List ℕ) (at clock : ℕ) where
  begun_action : Started c (begin c phone at clock Blank)
  unfolding begin
  begun_action = record { fit = record { settings = refl; shows = tt; code = tt }; idle = λ e. absurd (true≢false e); kept = omega arith }

  begun_code : (method_at c.methods at).kind ≡ CodeEntry → Started c (begin c phone at clock Fresh)
  unfolding begin new_session challenge_changed challenge_for code_runs code_in_progress in_progress
  begun_code k = record { fit = record { settings = refl; shows = rw k; code = rw k }; idle = λ e. absurd (true≢false e); kept = omega arith }

  started_as : (lent gives : Bool) (k : Kind) → (method_at c.methods at).kind ≡ k → Started c (start_as c phone at clock lent gives k)
  started_as lent gives InCarAction k = begun_action
  started_as lent gives CodeEntry k = each_check (λ o. Started c o) (leave c) _ _ (refused c) (begun_code k)

pub started : (c : Core) (phone method : List ℕ) (clock : ℕ) (lent gives : Bool) → Started c (start c phone method clock lent gives)
unfolding start start_at
started c phone method clock lent gives =
    each_check (λ o. Started c o) (leave c) _ _ (refused c) (started_as c phone (place_of c.methods method) clock lent gives _ refl)

-- ---- submit

-- a code judged wrong costs a try
abbrev pub Judged : Core → Ended → Type 0
Judged c e = let a = e.said.answer in Turn c (cond (eqb (number a) 10) 1 0) (submit_refills (number a) (values a)) e.said

module _ (c : Core) (low : 1 ≤ c.validation.tries) (clock : ℕ) where
  wrong_as : code_runs c ≡ true → Judged c (unvalidated (wrong c clock))
  unfolding wrong notified reply finish tried_core failed_core refilled ended_as reply_of code_runs code_in_progress in_progress
  wrong_as runs =
      either (λ (o : Said). Judged c (unvalidated o)) (ltb 1 c.validation.tries) _ _
      (record { fit = record { settings = refl; shows = tt; code = refl }; paid = rw runs (omega arith); kept = λ z. omega arith })
      (turn_ends c _ 1 _ _ refl refl (rw runs low) (λ z. absurd (true≢false z)))

  judged_as : (right full : Bool) (k : Kind) → in_progress c.validation.session ≡ true → (method_at c.methods c.validation.session.method).kind ≡ k
      → Judged c (judge_as c clock right full k)
  unfolding judge right_code notified reply succeed finish
  judged_as right full InCarAction p k = turn_notified c Answer.NotCodeEntry
  judged_as true full CodeEntry p k = either (λ (x : Ended). Judged c x) full _ _ (turn_notified c Answer.ListFull) (turn_succeed c _ clock)
  judged_as false full CodeEntry p k = wrong_as (runs_now c p k)

  ticked_as_lem : (phone : List ℕ) (right full : Bool) → Judged c (submitted c phone clock right full)
  unfolding submitted runs_for notified reply
  ticked_as_lem phone right full = go (in_progress s) refl
    where
      s : Session
      s = c.validation.session

      go : (p : Bool) → in_progress s ≡ p
          → Judged c (cond (p && is_of s phone) (judge_as c clock right full (method_at c.methods s.method).kind) (unvalidated (notified c Answer.NoSession)))
      go true p = either (λ (x : Ended). Judged c x) (is_of s phone) _ _ (judged_as right full _ p refl) (turn_notified c Answer.NoSession)
      go false p = turn_notified c Answer.NoSession

  pub submitted_as : (phone : List ℕ) (text right full : Bool) → Judged c (submit c phone clock text right full)
  unfolding submit checked leave end_session finish
  submitted_as phone true right full =
      lapse_as (λ l. Judged c (ticking c clock Answer.NoSession (submitted c phone clock right full) l)) c clock (ticked_as_lem phone right full)
      (λ status e. turn_end c Answer.NoSession status clock e)
  submitted_as phone false right full = turn_leave c Answer.NotText

-- ---- where a verdict matters

checked_as : {A : Type 0} (f : Answer → A) (ks : List Check) {x y : A} → (unmet ks ≡ true → x ≡ y) → checked f ks x ≡ checked f ks y
unfolding checked unmet
checked_as f [] e = e refl
checked_as f (k ∷ ks) {x} {y} e = go k.meets e (λ e. checked_as f ks e)
  where
    go : (b : Bool) → ((not b && unmet ks) ≡ true → x ≡ y) → ((unmet ks ≡ true → x ≡ y) → checked f ks x ≡ checked f ks y)
        → cond b (f k.answer) (checked f ks x) ≡ cond b (f k.answer) (checked f ks y)
    go true e r = refl
    go false e r = r e

pub passes : (x y : Bool) → x ≡ true → y ≡ true → (x && y) ≡ true
passes x y p q = rw (p, q)

start_as_lem : (c : Core) (phone : List ℕ) (at clock : ℕ) (k : Kind) {l l' v v' : Bool} → (is_code k ≡ true → (l ≡ l') × (v ≡ v'))
    → start_as c phone at clock l v k ≡ start_as c phone at clock l' v' k
start_as_lem c phone at clock InCarAction e = refl
start_as_lem c phone at clock CodeEntry e = λ i. start_as c phone at clock ((e refl).0 i) ((e refl).1 i) CodeEntry

pub start_by : (c : Core) (phone method : List ℕ) (clock : ℕ) {l l' v v' : Bool} → (draws c phone method clock ≡ true → (l ≡ l') × (v ≡ v'))
    → start c phone method clock l v ≡ start c phone method clock l' v'
unfolding start start_at draws
start_by c phone method clock e =
    let at = place_of c.methods method in
    checked_as (leave c) (start_checks c phone at clock) (λ w. start_as_lem c phone at clock (method_at c.methods at).kind (λ k. e (passes _ _ w k)))

module _ (c : Core) (phone : List ℕ) (clock : ℕ) (full : Bool) {r r' : Bool} where
  judge_as_lem : (k : Kind) → (k ≡ CodeEntry → r ≡ r') → judge_as c clock r full k ≡ judge_as c clock r' full k
  judge_as_lem InCarAction e = refl
  judge_as_lem CodeEntry e = λ i. judge_as c clock (e refl i) full CodeEntry

  submitted_by : (code_runs c ≡ true → r ≡ r') → submitted c phone clock r full ≡ submitted c phone clock r' full
  unfolding submitted runs_for
  submitted_by e = go (in_progress s) refl
    where
      s : Session
      s = c.validation.session

      k : Kind
      k = (method_at c.methods s.method).kind

      go : (p : Bool) → in_progress s ≡ p
          → cond (p && is_of s phone) (judge_as c clock r full k) (unvalidated (notified c Answer.NoSession)) ≡ cond (p && is_of s phone) (judge_as c clock r' full k) (unvalidated (notified c Answer.NoSession))
      go false p = refl
      go true p = ap (λ (o : Ended). cond (is_of s phone) o (unvalidated (notified c Answer.NoSession))) (judge_as_lem k (λ z. e (runs_now c p z)))

  pub submit_by : (text : Bool) → (text ≡ true → code_runs (tick c clock).core ≡ true → r ≡ r') → submit c phone clock text r full ≡ submit c phone clock text r' full
  unfolding submit checked tick leave
  submit_by false e = refl
  submit_by true e = go (lapse_of c clock) (e refl)
    where
      go : (l : Option Status) → (code_runs (ticked_as c clock l).core ≡ true → r ≡ r')
          → ticking c clock Answer.NoSession (submitted c phone clock r full) l ≡ ticking c clock Answer.NoSession (submitted c phone clock r' full) l
      go None e = submitted_by e
      go (Some status) e = refl
