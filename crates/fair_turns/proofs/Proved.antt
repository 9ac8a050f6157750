-- How many turns a run takes, what each decides and leaves, and the list as it is left.
use Prim.Native.Nat.{ℕ, suc, ◌+◌, ◌<◌, ◌≤◌, min}
use mathlib.Core.Path.{◌≡◌, refl, sym, ap, ap₂, ◌∙◌, subst, subst₂}
use mathlib.Core.Bool.{Bool, true, false, cond, and-eq-true_iff}
use mathlib.Core.List.{List, [], ◌++◌}
use mathlib.Core.Logic.{◌≢◌}
use native.Mathlib.Omega.{arith}
use borrow.Author.Tests.{ne_eqb, eqb-true, eqb-false}
use lib.Dec.{eqb}
use lib.ListN.{length, take, get_or}
use Rattle.arrays.specs.Arrays.{padded}
use Rattle.arrays.proofs.Laws.{padded_take}
use Rattle.waiting_list.specs.declared.Waiting.{Waiting}
use Rattle.waiting_list.specs.Queue.{bus_of, waiting_of}
use Rattle.waiting_list.proofs.Oldest.{waiting_length, waiting_at_lem}
use Rattle.waiting_list.proofs.Places as Places
use Rattle.waiting_list.proofs.Places.{closed_up_length}
use Rattle.waiting_list.proofs.Fair.{taken_below, taken_bus, oldest_first}
use Rattle.state.specs.declared.Gate.{Gate}
use Rattle.state.specs.declared.Answer.{Answer}
use Rattle.state.specs.declared.Answer.TheVariants.{Done, BadSettings}
use Rattle.state.specs.declared.Decided.{Decided}
use Rattle.state.specs.Replies.{nothing_raised, no_signals}
use Rattle.state.specs.View.{view, lists_in}
use Rattle.range.specs.Range.{in_range}
use Rattle.answers.specs.Query.{report}
use Rattle.can_turns.specs.Turns.{Serving, turn, turns, turns_taken, serving, no_decision, report_of}
use Rattle.definition.specs.Gate.{PackedReply, Says, laid_reply, queueing, says, left, gives, step}
use Rattle.footprint.proofs.Keeps.{either}
use Rattle.stays_in_range.specs.Stays.{InRange}
use Rattle.stays_in_range.proofs.Queue.{queue_in}
use Rattle.fair_turns.specs.Turns.{Host, count_of, TakesTurns, serve, report_in, reported, entries, before_turn, next_of, decided, gate_after, none_taken, TurnsTaken, Turn, ByAllow, Closed, ClosedUp}
use Rattle.fair_turns.proofs.Ranged as Ranged
use Rattle.fair_turns.proofs.Ranged.{host_of, gate_after_lem}
use Rattle.fair_turns.proofs.Runs.{run_of, serves_is, before_is, entries_are, run_length, run_entry, run_serves, run_count, from, run_on}

-- ---- how many

pub taken_are : (s : Host) (n clock : ℕ) → TakesTurns s → (reported s.gate (serve s n clock)).turns ≡ min n (count_of s)
unfolding report_of
taken_are s n clock h = let e = serves_is s n clock h in (λ i. (report_in (e i).answer).turns) ∙ run_length s clock (min n (count_of s))

none_taken_lem : (s : Host) (n clock : ℕ) → InRange s.gate → length s.list ≢ 16 → step s.gate (serve s n clock) ≡ none_taken s Done
unfolding step gives left says queueing view serving turns_taken turns no_signals nothing_raised
none_taken_lem s n clock r l = rw (r, ne_eqb (length s.list) 16 l)

no_turn_lem : (s : Host) (n clock : ℕ) → InRange s.gate → turns_taken n s.gate.queue s.list ≡ 0 → step s.gate (serve s n clock) ≡ none_taken s Done
unfolding step gives left says queueing view serving turns no_signals nothing_raised
no_turn_lem s n clock r z = rw (r, z)

out_of_range_lem : (s : Host) (n clock : ℕ) → in_range (view s.gate) ≡ false → step s.gate (serve s n clock) ≡ none_taken s BadSettings
unfolding step gives left says queueing view no_signals nothing_raised
out_of_range_lem s n clock r = rw r

taken_defined : (s : Host) (n clock : ℕ) → InRange s.gate → (reported s.gate (serve s n clock)).turns ≡ turns_taken n s.gate.queue s.list
unfolding turns_taken report_of
taken_defined s n clock r = go (eqb (length s.list) 16) refl
  where
    go : (b : Bool) → eqb (length s.list) 16 ≡ b → (reported s.gate (serve s n clock)).turns ≡ cond b (min n (count_of s)) 0
    go true e = taken_are s n clock (record { ranged = r; sixteen = eqb-true (length s.list) 16 e })
    go false e = let o = none_taken_lem s n clock r (eqb-false (length s.list) 16 e) in λ i. (report_in (o i).answer).turns

pub turns_taken_lem : TurnsTaken
turns_taken_lem = record {
  answer = λ s n clock h. let e = serves_is s n clock h in (λ i. (e i).answer) ∙ sym (λ i. report Done (report_in (e i).answer));
  signals = λ s n clock h. let e = serves_is s n clock h in λ i. (e i).signals;
  turns = taken_are;
  defined = taken_defined;
  no_turn = no_turn_lem;
  other_length = none_taken_lem;
  out_of_range = out_of_range_lem;
}

-- ---- turn i

module _ (s : Host) (clock i : ℕ) (h : TakesTurns s) where
  -- of those that wait
  pub before_turn_lem : i ≤ count_of s → before_turn s clock i ≡ host_of s.gate (run_of s clock i)
  before_turn_lem l = let e : min i (count_of s) ≡ i = omega arith in before_is s i clock h ∙ ap (λ (k : ℕ). host_of s.gate (run_of s clock k)) e

first_is : (s : Host) (clock : ℕ) → TakesTurns s → before_turn s clock 0 ≡ s
unfolding turns
first_is s clock h = before_turn_lem s clock 0 h (omega arith)

turn_is : (s : Host) (n clock i : ℕ) → TakesTurns s → i < min n (count_of s) → Turn s n clock i
unfolding turns
turn_is s n clock i h l =
    let b = before_turn_lem s clock i h (omega arith) in
    let c = before_turn_lem s clock (suc i) h (omega arith) in
    let k = run_serves s clock i h in
    record {
      serves = subst TakesTurns (sym b) k;
      entry =
          ap (λ (ds : List Decided). get_or ds i no_decision) (entries_are s n clock h) ∙ run_entry s clock (min n (count_of s)) i l ∙
          sym (Ranged.by_allow s.gate clock (run_of s clock i) k.ranged) ∙ ap (λ (t : Host). decided t clock) (sym b);
      gate = (λ j. (c j).gate) ∙ gate_after_lem s.gate clock (run_of s clock i) k.ranged ∙ ap (λ (t : Host). gate_after t clock) (sym b);
    }

-- where a turn is reported, gate and list take turns
pub turn_reported : (s : Host) (n clock i : ℕ) → i < (reported s.gate (serve s n clock)).turns → Turn s n clock i
unfolding report_of
turn_reported s n clock i l = go (in_range (view s.gate)) refl (eqb (length s.list) 16) refl
  where
    untaken : (a : Answer) → step s.gate (serve s n clock) ≡ none_taken s a → Turn s n clock i
    untaken a e = let z : (reported s.gate (serve s n clock)).turns ≡ 0 = λ j. (report_in (e j).answer).turns in absurd (omega arith)

    go : (a : Bool) → in_range (view s.gate) ≡ a → (b : Bool) → eqb (length s.list) 16 ≡ b → Turn s n clock i
    go true r true e = let h : TakesTurns s = record { ranged = r; sixteen = eqb-true (length s.list) 16 e } in turn_is s n clock i h (omega (arith, taken_are s n clock h))
    go true r false e = untaken Done (none_taken_lem s n clock r (eqb-false (length s.list) 16 e))
    go false r b e = untaken BadSettings (out_of_range_lem s n clock r)

-- a report is of those decided
abbrev Whole : PackedReply → Type 0
Whole r = (report_in r).frames ≡ padded 16 no_decision (take (report_in r).turns (report_in r).frames)

whole : (ds : List Decided) (a : Answer) → Whole (report a (report_of ds))
unfolding report_of
whole ds a = ap (padded 16 no_decision) (sym (padded_take 16 no_decision ds))

past_are : (s : Host) (n clock : ℕ) → Whole (step s.gate (serve s n clock)).answer
unfolding step gives says queueing
past_are s n clock = either (λ (x : Says). Whole (laid_reply x.answer)) (in_range (view s.gate)) _ _ (whole _ Done) (whole [] BadSettings)

-- ---- a run of m turns, then one of n

module _ (s : Host) (m n clock : ℕ) (h : TakesTurns s) where
  abbrev m' : ℕ
  m' = min m (count_of s)

  abbrev t : Host
  t = host_of s.gate (run_of s clock m')

  abbrev n' : ℕ
  n' = min n (count_of t)

  many : min (m + n) (count_of s) ≡ m' + n'
  many = omega (arith, run_count s clock m')

  run_both : run_of s clock (min (m + n) (count_of s)) ≡ from (run_of s clock m').decided (run_of t clock n')
  run_both = ap (run_of s clock) many ∙ run_on s clock m' n'

  joined_are : before_turn s clock (m + n) ≡ before_turn (before_turn s clock m) clock n
  joined_are =
      before_is s (m + n) clock h ∙ ap (host_of s.gate) run_both ∙
      sym (ap (λ (u : Host). before_turn u clock n) (before_is s m clock h) ∙ before_is t n clock (run_serves s clock m' h))

  reports_are : entries s.gate (serve s (m + n) clock) ≡ entries s.gate (serve s m clock) ++ entries (before_turn s clock m).gate (serve (before_turn s clock m) n clock)
  reports_are =
      entries_are s (m + n) clock h ∙ (λ i. (run_both i).decided) ∙
      sym (ap (λ (u : Host). entries s.gate (serve s m clock) ++ entries u.gate (serve u n clock)) (before_is s m clock h) ∙ ap₂ ◌++◌ (entries_are s m clock h) (entries_are t n clock (run_serves s clock m' h)))

pub by_allow : ByAllow
by_allow = record { first = first_is; turn = turn_is; past = past_are; joined = joined_are; reports = reports_are }

-- ---- the list as it is left

module _ (g : Gate) (clock : ℕ) (x : Serving) (h : TakesTurns (host_of g x)) (some : 0 < x.queue.count) where
  abbrev line : List Waiting
  line = waiting_of x.list x.queue.count

  bounds : (x.queue.count ≤ 16) × (x.queue.last ≤ 3)
  unfolding in_range view
  bounds = queue_in x.queue (simp and-eq-true_iff at h.ranged).1

  fits : x.queue.count ≤ length x.list
  fits = omega (arith, bounds.0, h.sixteen)

  bus : x.queue.last < 4
  bus = omega (arith, bounds.1)

  turn_closes : Closed (host_of g x) (host_of g (turn (lists_in g.phones) clock x))
  unfolding turn
  turn_closes = record {
    waits = taken_below x.list x.queue.count x.queue.last fits bus some;
    count = refl;
    oldest = λ i w e.
        oldest_first x.queue.last line i bus (omega (arith, w, fits, waiting_length x.list x.queue.count))
        (ap bus_of (waiting_at_lem x.list x.queue.count i w) ∙ e ∙ taken_bus x.list x.queue.count x.queue.last fits bus some);
    places = λ i. Places.closed_up_lem x.list (next_of (host_of g x)) x.queue.count i fits;
    sixteen = closed_up_length x.list (next_of (host_of g x)) x.queue.count ∙ h.sixteen;
  }

pub closed_up_lem : ClosedUp
unfolding turns
closed_up_lem s clock i h l =
    subst₂ Closed (sym (before_turn_lem s clock i h (omega arith))) (sym (before_turn_lem s clock (suc i) h (omega arith)))
    (turn_closes s.gate clock (run_of s clock i) (run_serves s clock i h) (omega (arith, run_count s clock i)))
