-- A run by `step` is the turns of the definition.
use Prim.Native.Nat.{ℕ, zero, suc, ◌+◌, ◌-◌, ◌<◌, min}
use mathlib.Core.Path.{◌≡◌, refl, sym, ap, ◌∙◌}
use mathlib.Core.List.{List, [], ◌∷◌, ◌++◌, append_assoc, append-nil}
use mathlib.Core.Logic.{◌⊎◌, inl, inr}
use native.Mathlib.Nat.{not-suc-le-zero, le_of_suc-le-suc, eq-or-lt_of_le}
use native.Mathlib.Omega.{arith}
use borrow.Author.Tests.{eq-eqb}
use lib.ListN.{length, take, get_or, get_or-append}
use lib.Seq.{get_or_at}
use Rattle.arrays.proofs.Laws.{padded_take}
use Rattle.waiting_list.proofs.Places.{closed_up_length}
use Rattle.state.specs.declared.Gate.{Gate}
use Rattle.state.specs.declared.Answer.TheVariants.{Done}
use Rattle.state.specs.declared.Decided.{Decided}
use Rattle.state.specs.Answers.{numbered}
use Rattle.state.specs.Replies.{nothing_raised, no_signals}
use Rattle.state.specs.View.{Lists, view, lists_in}
use Rattle.answers.specs.Query.{report}
use Rattle.can_turns.specs.Turns.{Serving, turn, turns, turns_taken, no_turn, serving, no_decision, report_of}
use Rattle.can_turns.proofs.Laws.{turns_decide}
use Rattle.definition.specs.Gate.{PackedReply, queueing, says, records, Given, left, gives, step}
use Rattle.fair_turns.specs.Turns.{Host, count_of, list_after, TakesTurns, serve, report_in, entries, before_turn}
use Rattle.fair_turns.proofs.Ranged.{host_of, entry_of, turn_ranged}

-- ---- a run of n turns, of those that wait

abbrev pub run_of : Host → ℕ → ℕ → Serving
run_of s clock n = turns (lists_in s.gate.phones) clock n (no_turn s.gate.core s.gate.queue s.list)

abbrev pub given_of : Gate → Serving → Given
given_of g x = record { numbered = numbered Done; answer = report Done (report_of x.decided); signals = no_signals; lent = records x.list; gate = (host_of g x).gate }

pub serves_is : (s : Host) (n clock : ℕ) → TakesTurns s → step s.gate (serve s n clock) ≡ given_of s.gate (run_of s clock (min n (count_of s)))
unfolding step gives left says queueing view serving turns_taken no_signals nothing_raised
serves_is s n clock h = rw (h.ranged, eq-eqb (length s.list) 16 h.sixteen)

pub before_is : (s : Host) (n clock : ℕ) → TakesTurns s → before_turn s clock n ≡ host_of s.gate (run_of s clock (min n (count_of s)))
before_is s n clock h = let e = serves_is s n clock h in λ i. record { gate = (e i).gate; list = list_after s.list (e i).lent }

-- its entries
abbrev entries_in : PackedReply → List Decided
entries_in r = take (report_in r).turns (report_in r).frames

pub entries_are : (s : Host) (n clock : ℕ) → TakesTurns s → entries s.gate (serve s n clock) ≡ (run_of s clock (min n (count_of s))).decided
unfolding report_of
entries_are s n clock h = let e = serves_is s n clock h in (λ i. entries_in (e i).answer) ∙ padded_take 16 no_decision (run_of s clock (min n (count_of s))).decided

-- one for each turn
pub run_length : (s : Host) (clock n : ℕ) → length (run_of s clock n).decided ≡ n
run_length s clock n = omega (arith, turns_decide (lists_in s.gate.phones) clock n (no_turn s.gate.core s.gate.queue s.list))

-- ---- turn i of it

pub run_entry : (s : Host) (clock n i : ℕ) → i < n → get_or (run_of s clock n).decided i no_decision ≡ entry_of s.gate clock (run_of s clock i)
unfolding turns turn
run_entry s clock zero i h = absurd (not-suc-le-zero h)
run_entry s clock (suc n) i h = go (eq-or-lt_of_le {n = i} {m = n} (le_of_suc-le-suc h)) (run_entry s clock n i)
  where
    ds : List Decided
    ds = (run_of s clock n).decided

    go : (i ≡ n) ⊎ (i < n) → (i < n → get_or ds i no_decision ≡ entry_of s.gate clock (run_of s clock i)) → get_or (ds ++ (entry_of s.gate clock (run_of s clock n) ∷ [])) i no_decision ≡ entry_of s.gate clock (run_of s clock i)
    go (inl e) k = get_or_at ds _ [] no_decision i (run_length s clock n ∙ sym e) ∙ ap (λ (m : ℕ). entry_of s.gate clock (run_of s clock m)) (sym e)
    go (inr l) k = get_or-append ds _ no_decision i (omega (arith, run_length s clock n)) ∙ k l

-- gate and list take turns still
pub run_serves : (s : Host) (clock n : ℕ) → TakesTurns s → TakesTurns (host_of s.gate (run_of s clock n))
unfolding turns turn
run_serves s clock zero h = record { ranged = h.ranged; sixteen = h.sixteen }
run_serves s clock (suc n) h =
    let k = run_serves s clock n h in
    record { ranged = turn_ranged s.gate clock (run_of s clock n) k.ranged; sixteen = closed_up_length _ _ _ ∙ k.sixteen }

pub run_count : (s : Host) (clock n : ℕ) → (run_of s clock n).queue.count ≡ count_of s - n
unfolding turns turn
run_count s clock zero = omega arith
run_count s clock (suc n) = omega (arith, run_count s clock n)

-- ---- a run of m turns, then one of n

abbrev pub from : List Decided → Serving → Serving
from ds x = record { core = x.core; queue = x.queue; list = x.list; decided = ds ++ x.decided }

-- what was decided before does not tell
turns_from : (l : Lists) (clock n : ℕ) (ds : List Decided) (x : Serving) → turns l clock n (from ds x) ≡ from ds (turns l clock n x)
unfolding turns turn
turns_from l clock zero ds x = refl
turns_from l clock (suc n) ds x = ap (turn l clock) (turns_from l clock n ds x) ∙ rw append_assoc

turns_sum : (l : Lists) (clock m n : ℕ) (x : Serving) → turns l clock (m + n) x ≡ turns l clock n (turns l clock m x)
unfolding turns
turns_sum l clock m zero x = let e : m + zero ≡ m = omega arith in ap (λ (k : ℕ). turns l clock k x) e
turns_sum l clock m (suc n) x = let e : m + suc n ≡ suc (m + n) = omega arith in ap (λ (k : ℕ). turns l clock k x) e ∙ ap (turn l clock) (turns_sum l clock m n x)

pub run_on : (s : Host) (clock m n : ℕ) → run_of s clock (m + n) ≡ from (run_of s clock m).decided (run_of (host_of s.gate (run_of s clock m)) clock n)
run_on s clock m n =
    let l = lists_in s.gate.phones in
    let y = run_of s clock m in
    let e : y ≡ from y.decided (no_turn y.core y.queue y.list) = λ i. record { core = y.core; queue = y.queue; list = y.list; decided = sym (append-nil y.decided) i } in
    turns_sum l clock m n _ ∙ ap (turns l clock n) e ∙ turns_from l clock n y.decided (no_turn y.core y.queue y.list)
