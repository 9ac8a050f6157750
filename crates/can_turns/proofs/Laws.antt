-- Laws of a turn and of a run.
use mathlib.Core.Path.{◌≡◌, refl, ap, ◌∙◌}
use mathlib.Core.Bool.{Bool, true, false}
use mathlib.Core.List.{List, [], ◌∷◌, ◌++◌}
use Prim.Native.Nat.{ℕ, zero, suc, ◌+◌, ◌-◌, ◌%◌, ◌<◌, ◌≤◌, min}
use native.Mathlib.Nat.{mod-lt, mod-add-mod}
use native.Mathlib.Numerals.{add-one}
use native.Mathlib.Omega.{arith}
use borrow.Author.Tests.{eq-eqb, ltb-false, not-true}
use lib.Dec.{eqb}
use lib.ListN.{length, set, length-append}
use Rattle.arrays.proofs.Laws.{padded_push}
use Rattle.phones.specs.declared.ShortId.{ShortId}
use Rattle.phones.specs.Phones.{too_long, id_in_range}
use Rattle.waiting_list.specs.declared.Waiting.{Waiting}
use Rattle.waiting_list.specs.Queue.{under_bus, waiting_of, record_at, oldest_on, next_bus, next_place, closed_up}
use Rattle.waiting_list.proofs.Oldest.{waiting_length}
use Rattle.waiting_list.proofs.Fair.{takes_one}
use Rattle.waiting_list.proofs.Places.{closed_up_length}
use Rattle.state.specs.declared.Core.{Core}
use Rattle.state.specs.declared.Queue.{Queue}
use Rattle.state.specs.declared.Said.{Said}
use Rattle.state.specs.declared.Decided.{Decided}
use Rattle.state.specs.declared.Report.{Report}
use Rattle.state.specs.Answers.{values, is_yes}
use Rattle.state.specs.Replies.{quiet}
use Rattle.state.specs.View.{Lists}
use Rattle.can_tx.specs.declared.Verdict.{Verdict}
use Rattle.can_tx.specs.Verdict.{verdict, answer_by, core_by, said_by}
use Rattle.can_tx.proofs.Laws.{decided_so}
use Rattle.can_turns.specs.declared.Run.{Run}
use Rattle.can_turns.specs.Turns.{Serving, owner_validated, turn, turns, turns_taken, no_turn, serving, no_decision, report_of}
use Rattle.can_turns.specs.Steps.{Reports, Turns, run_of}

-- ---- a list of another length

-- it takes no turns
pub serving_other : (c : Core) (l : Lists) (q : Queue) (ws : List Waiting) (n clock : ℕ) → eqb (length ws) 16 ≡ false → serving c l q ws n clock ≡ no_turn c q ws
unfolding serving turns_taken turns
serving_other c l q ws n clock e = rw e

-- ---- a turn

pub id_fits : (p : ShortId) → id_in_range p ≡ true → p.len ≤ 32
unfolding id_in_range too_long
id_fits p h = ltb-false 32 p.len (not-true _ h)

-- only the last served modulo 4 tells
next_modulo : (last : ℕ) (ws : List Waiting) → next_place last ws ≡ next_place (last % 4) ws
unfolding next_place next_bus
next_modulo last ws =
    let m : last % 4 % 4 ≡ last % 4 = omega arith in
    rw (mod-add-mod last 4 1, mod-add-mod last 4 2, mod-add-mod last 4 3, m)

next_below : (last : ℕ) (ws : List Waiting) → length ws ≤ 16 → next_place last ws ≤ 15
unfolding next_place oldest_on
next_below last [] h = omega arith
next_below last (w ∷ ws) h = rw (next_modulo last (w ∷ ws)) (omega (arith, takes_one (last % 4) (w ∷ ws) 0 (mod-lt last (omega arith)) (omega arith)))

-- the place that is taken is one of the sixteen
place_in : (l : List Waiting) (n last : ℕ) → length l ≡ 16 → min (next_place last (waiting_of l n)) 15 ≡ next_place last (waiting_of l n)
place_in l n last far = omega (arith, next_below last (waiting_of l n) (omega (arith, waiting_length l n)))

-- one decision more in the report
pub reported : (old : Report) (d : Decided) (ds : List Decided) → old ≡ report_of ds → length ds < 16
    → ◌≡◌ {A = Report} (record { turns = old.turns + 1; frames = set old.frames old.turns d }) (report_of (ds ++ (d ∷ [])))
unfolding report_of
reported old d ds e h = rw (e, length-append, padded_push 16 no_decision d ds h)

-- what the calls of a turn say comes to a turn
pub turned : (l : Lists) (clock : ℕ) (s : Run) (place : ℕ) (old w : Waiting) (validated : Bool) (v : Verdict) (passes : Bool) (core : Core) (report : Report) (left : List Waiting) (count : ℕ)
    → place ≡ next_place s.queue.last (waiting_of s.all s.queue.count)
    → old ≡ record_at s.all (min place 15)
    → w ≡ under_bus old
    → validated ≡ owner_validated s.core.policy.identity l w
    → v ≡ verdict s.core w.frame.bus w.frame w.class validated clock
    → passes ≡ is_yes (values (answer_by v))
    → core ≡ core_by s.core v
    → Reports report s.report w.frame passes
    → left ≡ closed_up s.all place s.queue.count
    → count ≡ s.queue.count - 1
    → Turns (record { core = core; queue = record { count = count; last = w.frame.bus }; all = left; report = report }) l clock s
unfolding turn quiet
turned l clock s place old w validated v passes core report left count is-place is-old is-w is-validated is-verdict is-passes is-core reports is-left is-count x e k h =
    let far : length s.all ≡ 16 = ap (λ (t : Run). length t.all) e ∙ k in
    let is-report = reports x.decided (ap (λ (t : Run). t.report) e) h in
    let taken : old ≡ record_at s.all place = is-old ∙ ap (record_at s.all) (rw is-place (place_in s.all s.queue.count s.queue.last far)) in
    let is_said = ap (said_by s.core) is-verdict ∙ decided_so s.core w.frame.bus w.frame w.class validated clock in
    let yes = is-passes ∙ ap (λ (o : Said). is_yes (values o.answer)) is_said in
    let next = is-core ∙ ap (λ (o : Said). o.core) is_said in
    rw (is-report, yes, next, is-left, is-count, is-validated, is-w, taken, is-place, e)

-- ---- a run

-- each turn decides one
pub turns_decide : (l : Lists) (clock n : ℕ) (s : Serving) → length (turns l clock n s).decided ≡ n + length s.decided
unfolding turns turn
turns_decide l clock zero s = omega arith
turns_decide l clock (suc n) s = rw length-append (omega (arith, turns_decide l clock n s))

-- and leaves as many records
turns_long : (l : Lists) (clock n : ℕ) (s : Serving) → length (turns l clock n s).list ≡ length s.list
unfolding turns turn
turns_long l clock zero s = refl
turns_long l clock (suc n) s = closed_up_length _ _ _ ∙ turns_long l clock n s

-- one turn more, where no more than fifteen were taken
pub turns_on : (l : Lists) (clock i : ℕ) (s r : Run) (x : Serving) → length x.list ≡ 16 → length x.decided ≡ 0 → i < 16 → s ≡ run_of (turns l clock i x) → Turns r l clock s → r ≡ run_of (turns l clock (i + 1) x)
unfolding turns
turns_on l clock i s r x k d h e t = rw add-one (t (turns l clock i x) e (turns_long l clock i x ∙ k) (omega (arith, turns_decide l clock i x)))

-- as many as were given, or as wait
pub run_ends : (c : Core) (l : Lists) (q : Queue) (ws : List Waiting) (n clock i : ℕ) → length ws ≡ 16 → i ≡ min n q.count → run_of (turns l clock i (no_turn c q ws)) ≡ run_of (serving c l q ws n clock)
unfolding serving turns_taken
run_ends c l q ws n clock i far e = rw (eq-eqb (length ws) 16 far, e)
