-- The gate at first, and turn by turn.
use Rattle.std.proofs.Common.{◌≡◌, ℕ, ◌+◌, List, [], refl, ap, ◌∙◌, ap₂, add-one}
use Rattle.frames.specs.declared.CanFrame.{CanFrame}
use Rattle.frames.specs.declared.TxClass.{TxClass}
use Rattle.state.specs.declared.Gate.{Gate}
use Rattle.state.specs.declared.Method.{Method}
use Rattle.state.specs.declared.Outcome.{Outcome}
use Rattle.state.specs.declared.Settings.{Settings}
use Rattle.new_gate.specs.New.{new_gate}
use Rattle.waiting_list.specs.declared.Waiting.{Waiting}
use Rattle.definition.specs.Gate.{Given, given, lent_records, ran_given, new_gate_call, says, left, gives, step}
use Rattle.gate_queue.specs.declared.SentOn.{SentOn}
use Rattle.gate_queue.specs.declared.RanOn.{RanOn}
use Rattle.gate_queue.specs.Given.{sent_of, served_of}
use Rattle.gate_queue.proofs.Laws.{sends, serves}
use Rattle.bench_calls.specs.declared.held.Run.{Run}
use Rattle.bench_calls.specs.Rounds.{after, Lending, after_lent, sent, served, turns, first, sum_of, sum_lent}
use Rattle.bench_calls.specs.Held.{list}

-- the gate of a new gate, whatever gate was before it
pub new_gate_is : (g : Gate) (settings : Settings) (list : List Method) (count : ℕ) → (step g (new_gate_call settings list count)).gate ≡ (new_gate settings list count).gate
unfolding step gives says left new_gate
new_gate_is g settings ms count = refl

-- the gate and the sum that a loop holds
abbrev pub run_of : Gate → ℕ → Run
run_of g sum = record { gate = g; sum = sum }

-- both after a call
pub run_after : (m i : ℕ) (o : Outcome) {s : ℕ} {t : Given} → s ≡ (after m (given o) i).sum → given o ≡ t → run_of o.gate s ≡ after m t i
run_after m i o e h = ap (λ (x : ℕ). run_of o.gate x) e ∙ ap (λ (x : Given). after m x i) h

-- one turn more
pub turn_more : {A : Type 0} (f : A → ℕ → A) (r₀ : A) (i : ℕ) {r s : A} → r ≡ turns f r₀ i → s ≡ f r i → s ≡ turns f r₀ (i + 1)
unfolding turns
turn_more {A} f r₀ i h e = rw add-one (e ∙ ap (λ (x : A). f x i) h)

-- the sum after the last turn
pub sum_is : (f : Run → ℕ → Run) (g h : Gate) (i n : ℕ) {r : Run} → r ≡ turns f (first g) i → g ≡ h → i ≡ n → r.sum ≡ sum_of f h n
sum_is f g h i n e p q = ap (λ (x : Run). x.sum) e ∙ ap₂ (λ (x : Gate) (k : ℕ). (turns f (first x) k).sum) p q

-- ---- the same with a list that is lent

abbrev pub lending_of : Gate → ℕ → List Waiting → Lending
lending_of g sum l = record { run = run_of g sum; list = l }

pub sent_after : (m i : ℕ) (g : Gate) (ws : List Waiting) (frame : CanFrame) (class : TxClass) (owner : List ℕ) (d : SentOn) {s : ℕ} → d ≡ sent_of g ws frame class owner → s ≡ (after m (given d.outcome) i).sum
    → lending_of d.outcome.gate s d.all ≡ sent frame class owner (lending_of g m ws) i
sent_after m i g ws frame class owner d h e =
    ap (λ (x : ℕ). lending_of d.outcome.gate x d.all) e ∙
    ap (λ (t : Given). after_lent m t i) (ap (λ (x : SentOn). lent_records x.outcome x.all) h ∙ sends g ws frame class owner)

pub ran_after : (m i : ℕ) (g : Gate) (ws : List Waiting) (d : RanOn) {s : ℕ} → d ≡ served_of g ws 1 i → s ≡ (after m (ran_given d.ran []) i).sum → lending_of d.ran.outcome.gate s d.all ≡ served (lending_of g m ws) i
ran_after m i g ws d h e =
    ap (λ (x : ℕ). lending_of d.ran.outcome.gate x d.all) e ∙
    ap (λ (t : Given). after_lent m t i) (ap (λ (x : RanOn). ran_given x.ran x.all) h ∙ serves g ws 1 i)

pub sum_lent_is : (f : Lending → ℕ → Lending) (g h : Gate) (l : List Waiting) (i n : ℕ) {r : Lending} → r ≡ turns f (lending_of g 0 l) i → g ≡ h → l ≡ list → i ≡ n → r.run.sum ≡ sum_lent f h n
sum_lent_is f g h l i n e p q k = ap (λ (x : Lending). x.run.sum) e ∙ (λ j. (turns f (lending_of (p j) 0 (q j)) (k j)).run.sum)
