-- How many codes a part of a run may judge wrong: demand 3, second part, where a part is a session, and W-206, where it reaches from one
-- refill of the tries to the next. What was judged wrong so far and what may still be judged wrong are together at most the number set.
use Rattle.std.specs.Prelude.{is_some}
use mathlib.Core.Path.{◌≡◌, refl, sym, ap, ◌∙◌}
use mathlib.Core.Bool.{Bool, true, false, cond, ◌&&◌, false≢true}
use mathlib.Core.List.{List, [], ◌∷◌}
use Prim.Native.Nat.{ℕ, ◌+◌, ◌≤◌, zero-le}
use native.Mathlib.Nat.{le_refl}
use native.Mathlib.Omega.{arith}
use lib.Dec.{eqb}
use Rattle.draw.specs.Draw.{drawn}
use Rattle.text.specs.Text.{is_text}
use Rattle.state.specs.declared.Method.{Method}
use Rattle.state.specs.declared.Settings.{Settings}
use Rattle.state.specs.declared.Core.{Core}
use Rattle.state.specs.declared.Gate.{Gate}
use Rattle.state.specs.declared.Answer.TheVariants.{BadSettings}
use Rattle.state.specs.Running.{in_progress, code_in_progress}
use Rattle.state.specs.View.{View, view}
use Rattle.range.specs.Range.{settings_fit, methods_in, in_range}
use Rattle.answers.specs.Query.{plain, ReplyByIds, numbered_reply}
use Rattle.new_gate.specs.New.{new_core, Made, made_core}
use Rattle.definition.specs.Gate as Gate
use Rattle.definition.specs.Gate.{PackedReply, Call, Says, is_lent, full_for, saying, asked, served, queueing, says, laid_reply, gives, step, after}
use Rattle.footprint.proofs.Keeps.{either}
use Rattle.two_runs.specs.Demand.{code_runs, is_right, number_of, judged_wrong, begins, Within, parts, sessions, Every, nil, both}
use Rattle.two_runs.specs.Refills.{session_refills, submit_refills, refills, Refilled}
use Rattle.two_runs.proofs.Turns.{tries_left, tries_fit_lem, turn_core, turn_session, turn_serving}
use Rattle.two_runs.proofs.Sessions.{started, submitted_as}

none_more : (x y : ℕ) → x ≤ y → 0 + x ≤ y
none_more x y h = omega arith

-- ---- any way to cut a run

-- `left` is how many codes may still be judged wrong before a call cuts the run; such a call judges no more than that, and any other one
-- takes from it what it judges wrong
module _
    (cuts : Call → PackedReply → Bool)
    (left : Gate → ℕ)
    (set : (g : Gate) → left g ≤ g.core.settings.tries)
    (last : (g : Gate) (c : Call) → cuts c (step g c).answer ≡ true → judged_wrong c (step g c).answer ≤ left g)
    (takes : (g : Gate) (c : Call) → cuts c (step g c).answer ≡ false → judged_wrong c (step g c).answer + left (after g c) ≤ left g) where
  all : (cs : List Call) (g : Gate) (tries count : ℕ) → count + left g ≤ tries → Every Within (parts cuts tries count g cs)
  all [] g tries count h = let k : count ≤ tries = omega arith in both k nil
  all (c ∷ cs) g tries count h = go (cuts c (step g c).answer) refl (λ t n. all cs (after g c) t n)
    where
      go : (b : Bool) → cuts c (step g c).answer ≡ b → ((t n : ℕ) → n + left (after g c) ≤ t → Every Within (parts cuts t n (after g c) cs))
          → Every Within (elim b [
            | true ↦ record { tries = tries; wrong = count + judged_wrong c (step g c).answer } ∷ parts cuts (after g c).core.settings.tries 0 (after g c) cs
            | false ↦ parts cuts tries (count + judged_wrong c (step g c).answer) (after g c) cs
          ])
      go true e k = let w : count + judged_wrong c (step g c).answer ≤ tries = omega (arith, last g c e) in both w (k _ 0 (none_more _ _ (set (after g c))))
      go false e k = k tries _ (omega (arith, takes g c e))

  within_parts : (g : Gate) (cs : List Call) → Every Within (parts cuts g.core.settings.tries 0 g cs)
  within_parts g cs = all cs g g.core.settings.tries 0 (none_more _ _ (set g))

-- ---- a gate in range, or one that gets 25

-- what a gate has left by a measure of its core: nothing if it gets 25
abbrev left_by : (Core → ℕ) → Gate → ℕ
left_by m g = cond (in_range (view g)) (m g.core) 0

at_most : (b : Bool) (x : ℕ) → cond b x 0 ≤ x
at_most true x = le_refl _
at_most false x = zero-le

-- What holds of a call in range holds of the call, 25 included. `worth` is 1 or 0 by the answer's number.
at_gate : (m : Core → ℕ) (g : Gate) (s : Says) (worth : ℕ → ℕ) → worth 25 ≡ 0
    → (in_range (view g) ≡ true → worth (number_of (laid_reply s.answer)) + m s.core ≤ m g.core)
    → worth (number_of (laid_reply (served (view g) s).answer)) + left_by m (Gate.left g (served (view g) s)) ≤ left_by m g
unfolding served view Gate.left
at_gate m g s worth z k = go (in_range (view g)) refl
  where
    go : (b : Bool) → in_range (view g) ≡ b
        → worth (number_of (laid_reply (cond b s (asked (view g) (plain BadSettings))).answer)) + left_by m (Gate.left g (cond b s (asked (view g) (plain BadSettings))))
        ≤ cond b (m g.core) 0
    go true e = omega (arith, k e, at_most (in_range (view (Gate.left g s))) (m s.core))
    go false e = rw (z, e) (le_refl 0)

-- the same of a call that judges no code, whatever it answers with 25
left_gate : (m : Core → ℕ) (g : Gate) (a : ReplyByIds) (s : Says) → m s.core ≤ m g.core → 0 + left_by m (Gate.left g (cond (in_range (view g)) s (asked (view g) a))) ≤ left_by m g
unfolding view Gate.left
left_gate m g a s k = none_more _ _ (go (in_range (view g)) refl)
  where
    go : (b : Bool) → in_range (view g) ≡ b → left_by m (Gate.left g (cond b s (asked (view g) a))) ≤ cond b (m g.core) 0
    go true e = omega (arith, k, at_most (in_range (view (Gate.left g s))) (m s.core))
    go false e = rw e (le_refl 0)

served_in : (v : View) (s : Says) → in_range v ≡ true → served v s ≡ s
unfolding served
served_in v s f = ap (λ (b : Bool). cond b s (asked v (plain BadSettings))) f

-- ---- demand 3: a part is a session

left_set : (g : Gate) → left_by tries_left g ≤ g.core.settings.tries
unfolding view
left_set g = go (in_range (view g)) refl (code_runs g.core)
  where
    go : (f : Bool) → in_range (view g) ≡ f → (r : Bool) → cond f (cond r g.core.validation.tries 0) 0 ≤ g.core.settings.tries
    go true f true = (tries_fit_lem (view g) f).1
    go true f false = zero-le
    go false f r = zero-le

-- a new gate has no session
new_none : (settings : Settings) (methods : List Method) (count : ℕ) → code_runs (made_core settings methods count).core ≡ false
unfolding made_core new_core code_runs code_in_progress in_progress
new_none settings methods count = either (λ (m : Made). code_runs m.core ≡ false) (settings_fit settings && methods_in methods count) _ _ refl refl

-- a start judges no code
start_last : (g : Gate) (c : Call) → begins c (step g c).answer ≡ true → judged_wrong c (step g c).answer ≤ left_by tries_left g
unfolding begins judged_wrong
start_last g (Gate.new_gate_call settings methods count) e = zero-le
start_last g (Gate.start_validation phone method clock random) e = zero-le
start_last g (Gate.submit_validation_code phone typed clock) e = absurd (false≢true e)
start_last g (Gate.on_session k) e = zero-le
start_last g (Gate.on_lists k) e = zero-le
start_last g (Gate.on_save k) e = zero-le
start_last g (Gate.on_queue k) e = zero-le
start_last g (Gate.on_core k) e = zero-le
start_last g (Gate.ask q) e = zero-le

-- A call that begins no session: what it judges wrong, it takes from what the session has left.
session_takes : (g : Gate) (c : Call) → begins c (step g c).answer ≡ false → judged_wrong c (step g c).answer + left_by tries_left (after g c) ≤ left_by tries_left g
unfolding step gives says queueing saying view Gate.left begins judged_wrong
session_takes g (Gate.new_gate_call settings methods count) e =
    let c = (made_core settings methods count).core in
    let t : tries_left c ≡ 0 = rw (new_none settings methods count) in
    omega (arith, t, at_most (in_range (view (after g (Gate.new_gate_call settings methods count)))) (tries_left c))
session_takes g (Gate.start_validation phone method clock random) e =
    let d = drawn random g.core.settings.digits in
    at_gate tries_left g _ (λ n. 0) refl
    (λ f. (started g.core phone method clock (is_lent random) (is_some d)).idle (sym (ap (λ (s : Says). eqb (number_of (laid_reply s.answer)) 0) (served_in (view g) _ f)) ∙ e))
session_takes g (Gate.submit_validation_code phone typed clock) e =
    at_gate tries_left g _ (λ n. cond (eqb n 10) 1 0) refl
    (λ f. (submitted_as g.core (tries_fit_lem (view g) f).0 clock phone (is_text typed) (is_right g typed) (full_for (view g))).paid)
session_takes g (Gate.on_session k) e = at_gate tries_left g _ (λ n. 0) refl (λ f. (turn_session g.core _ k).paid)
session_takes g (Gate.on_lists k) e = at_gate tries_left g _ (λ n. 0) refl (λ f. none_more _ _ (le_refl _))
session_takes g (Gate.on_save k) e = at_gate tries_left g _ (λ n. 0) refl (λ f. none_more _ _ (le_refl _))
session_takes g (Gate.on_queue (Gate.send_can_frame list frame class owner)) e = at_gate tries_left g _ (λ n. 0) refl (λ f. none_more _ _ (le_refl _))
session_takes g (Gate.on_queue (Gate.serve_can_frames list turns clock)) e =
    let t = turn_serving g.core (view g).lists g.queue list turns clock in
    left_gate tries_left g _ _ (rw (t.runs, t.validation) (le_refl _))
session_takes g (Gate.on_core k) e = at_gate tries_left g _ (λ n. 0) refl (λ f. (turn_core g.core _ k).paid)
session_takes g (Gate.ask q) e = none_more _ _ (le_refl _)

pub limited : (g : Gate) (cs : List Call) → Every Within (sessions g.core.settings.tries 0 g cs)
limited = within_parts begins (left_by tries_left) left_set start_last session_takes

-- ---- W-206: a part ends with a refill

abbrev gate_tries : Core → ℕ
gate_tries c = c.validation.tries

tries_most : (g : Gate) → left_by gate_tries g ≤ g.core.settings.tries
unfolding view
tries_most g = go (in_range (view g)) refl
  where
    go : (f : Bool) → in_range (view g) ≡ f → cond f (gate_tries g.core) 0 ≤ g.core.settings.tries
    go true f = (tries_fit_lem (view g) f).1
    go false f = zero-le

-- a submit judges one code at most, and a gate in range has a try left for it
one_judged : (g : Gate) (s : Says) → cond (eqb (number_of (laid_reply (served (view g) s).answer)) 10) 1 0 ≤ left_by gate_tries g
unfolding served view
one_judged g s = go (in_range (view g)) refl
  where
    go : (b : Bool) → in_range (view g) ≡ b → cond (eqb (number_of (laid_reply (cond b s (asked (view g) (plain BadSettings))).answer)) 10) 1 0 ≤ cond b (gate_tries g.core) 0
    go true e = omega (arith, at_most (eqb (number_of (laid_reply s.answer)) 10) 1, (tries_fit_lem (view g) e).0)
    go false e = zero-le

refill_last : (g : Gate) (c : Call) → refills c (step g c).answer ≡ true → judged_wrong c (step g c).answer ≤ left_by gate_tries g
unfolding step gives says judged_wrong
refill_last g (Gate.new_gate_call settings methods count) e = zero-le
refill_last g (Gate.start_validation phone method clock random) e = zero-le
refill_last g (Gate.submit_validation_code phone typed clock) e = one_judged g _
refill_last g (Gate.on_session k) e = zero-le
refill_last g (Gate.on_lists k) e = zero-le
refill_last g (Gate.on_save k) e = zero-le
refill_last g (Gate.on_queue k) e = zero-le
refill_last g (Gate.on_core k) e = zero-le
refill_last g (Gate.ask q) e = zero-le

-- A call that does not refill: what it judges wrong, it takes from the gate's tries.
gate_takes : (g : Gate) (c : Call) → refills c (step g c).answer ≡ false → judged_wrong c (step g c).answer + left_by gate_tries (after g c) ≤ left_by gate_tries g
unfolding step gives says queueing saying view Gate.left refills judged_wrong
gate_takes g (Gate.new_gate_call settings methods count) e = absurd (false≢true (sym e))
gate_takes g (Gate.start_validation phone method clock random) e =
    let d = drawn random g.core.settings.digits in
    at_gate gate_tries g _ (λ n. 0) refl (λ f. (started g.core phone method clock (is_lent random) (is_some d)).kept)
gate_takes g (Gate.submit_validation_code phone typed clock) e =
    at_gate gate_tries g _ (λ n. cond (eqb n 10) 1 0) refl
    (λ f. (submitted_as g.core (tries_fit_lem (view g) f).0 clock phone (is_text typed) (is_right g typed) (full_for (view g))).kept
    (sym (ap (λ (s : Says). submit_refills (number_of (laid_reply s.answer)) (numbered_reply (laid_reply s.answer)).values) (served_in (view g) _ f)) ∙ e))
gate_takes g (Gate.on_session k) e =
    at_gate gate_tries g _ (λ n. 0) refl
    (λ f. (turn_session g.core _ k).kept (sym (ap (λ (s : Says). session_refills k (numbered_reply (laid_reply s.answer)).values) (served_in (view g) _ f)) ∙ e))
gate_takes g (Gate.on_lists k) e = at_gate gate_tries g _ (λ n. 0) refl (λ f. none_more _ _ (le_refl _))
gate_takes g (Gate.on_save k) e = at_gate gate_tries g _ (λ n. 0) refl (λ f. none_more _ _ (le_refl _))
gate_takes g (Gate.on_queue (Gate.send_can_frame list frame class owner)) e = at_gate gate_tries g _ (λ n. 0) refl (λ f. none_more _ _ (le_refl _))
gate_takes g (Gate.on_queue (Gate.serve_can_frames list turns clock)) e =
    left_gate gate_tries g _ _ (rw (gate_tries, (turn_serving g.core (view g).lists g.queue list turns clock).validation) (le_refl _))
gate_takes g (Gate.on_core k) e = at_gate gate_tries g _ (λ n. 0) refl (λ f. (turn_core g.core _ k).kept refl)
gate_takes g (Gate.ask q) e = none_more _ _ (le_refl _)

pub refilled : Refilled
refilled = within_parts refills (left_by gate_tries) tries_most refill_last gate_takes
