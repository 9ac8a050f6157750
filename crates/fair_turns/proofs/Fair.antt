-- `Fair`: a run, any call, and any calls.
use Prim.Native.Nat.{ℕ, zero, suc, ◌-◌, ◌<◌, ◌≤◌, min}
use mathlib.Core.Path.{◌≡◌, refl, sym, ap, ap₂, ◌∙◌, subst, subst₂}
use mathlib.Core.Bool.{Bool, true, false, false≢true, and-eq-true_iff}
use mathlib.Core.List.{List, [], ◌∷◌, ◌++◌, append-nil}
use native.Mathlib.Omega.{arith}
use borrow.Author.Tests.{ltb-false, not-true}
use lib.ListN.{length, take, drop, length-append, take-append-drop}
use Rattle.arrays.proofs.Laws.{padded_take}
use Rattle.phones.specs.Ids.{Left, stays, becomes}
use Rattle.frames.specs.declared.CanFrame.{CanFrame}
use Rattle.frames.specs.declared.TxClass.{TxClass}
use Rattle.waiting_list.specs.declared.Waiting.{Waiting}
use Rattle.waiting_list.specs.Queue.{record_at, bus_of, waiting_of}
use Rattle.waiting_list.specs.Fair.{before}
use Rattle.waiting_list.proofs.Oldest.{waiting_length, waiting_at_lem}
use Rattle.waiting_list.proofs.Gone.{before_more}
use Rattle.waiting_list.proofs.Fair.{turns_bounded}
use Rattle.state.specs.declared.Answer.{Answer}
use Rattle.state.specs.declared.Answer.TheVariants.{Done, BadSettings}
use Rattle.state.specs.declared.Decided.{Decided}
use Rattle.state.specs.Checks.{unmet}
use Rattle.state.specs.View.{view}
use Rattle.range.specs.Range.{in_range}
use Rattle.save.specs.Save as Save
use Rattle.answers.specs.Query.{report}
use Rattle.can_queue.specs.Calls.{Sending, unsent, sending}
use Rattle.can_turns.specs.Turns.{turn, turns, no_decision, report_of}
use Rattle.definition.specs.Gate as Gate
use Rattle.definition.specs.Gate.{PackedReply, Call, Says, saying, served, saving, queueing, says, laid_reply, lent_to, bytes, records, lent_as, lent_after, of_sending, left, gives, step}
use Rattle.footprint.proofs.Keeps.{either}
use Rattle.stays_in_range.proofs.Parts.{if_checked}
use Rattle.stays_in_range.proofs.Queue.{neither, queue_in}
use Rattle.fair_turns.specs.Turns.{Host, count_of, list_after, host_after, TakesTurns, serve, report_in, entries, next_of}
use Rattle.fair_turns.specs.Fair.{goes_on, Lends, Unaltered, end, next, Took, no_turns, places_of, took, all_took, turns_until, bound, InTime, Fair}
use Rattle.fair_turns.proofs.Ranged.{host_of}
use Rattle.fair_turns.proofs.Runs.{run_of, before_is, entries_are, run_length, run_count}
use Rattle.fair_turns.proofs.Proved.{taken_are, turns_taken_lem, before_turn_lem}
use Rattle.fair_turns.proofs.Waits.{Stands, left_of, Fate, decided, waits, and_then, same_host, one_more, one_turn}

-- ---- a run

-- the places of its turns, by the turns of the definition
abbrev taking : Host → ℕ → ℕ → List ℕ
taking s clock zero = []
taking s clock (suc n) = taking s clock n ++ (next_of (host_of s.gate (run_of s clock n)) ∷ [])

places_are : (s : Host) (clock n : ℕ) → TakesTurns s → n ≤ count_of s → places_of s clock n ≡ taking s clock n
places_are s clock zero h l = refl
places_are s clock (suc n) h l =
    ap₂ (λ (ts : List ℕ) (t : Host). ts ++ (next_of t ∷ [])) (places_are s clock n h (omega arith)) (before_turn_lem s clock n h (omega arith))

abbrev ran : Host → ℕ → ℕ → Took
ran s clock n = record { places = taking s clock n; entries = (run_of s clock n).decided }

fate_run : (s : Host) (clock n p : ℕ) → Stands s.gate.queue s.list p → Fate s p (ran s clock n) (host_of s.gate (run_of s clock n))
unfolding turns turn
fate_run s clock zero p h = same_host s (host_of s.gate (run_of s clock zero)) p refl refl h
fate_run s clock (suc n) p h =
    and_then s (host_of s.gate (run_of s clock n)) (host_of s.gate (run_of s clock (suc n))) p (ran s clock n) _ (fate_run s clock n p h)
    (λ p' h'. one_turn s.gate clock (run_of s clock n) p' h')

fate_serve : (s : Host) (n clock p : ℕ) → Stands s.gate.queue s.list p → Fate s p (took s (serve s n clock)) (host_after s (serve s n clock))
unfolding report_of
fate_serve s n clock p h = go (in_range (view s.gate)) refl
  where
    go : (b : Bool) → in_range (view s.gate) ≡ b → Fate s p (took s (serve s n clock)) (host_after s (serve s n clock))
    go true r =
        let v : TakesTurns s = record { ranged = r; sixteen = h.sixteen } in
        let m = min n (count_of s) in
        let e : took s (serve s n clock) ≡ ran s clock m =
        λ i. record { places = (ap (places_of s clock) (taken_are s n clock v) ∙ places_are s clock m v (omega arith)) i; entries = entries_are s n clock v i } in
        subst₂ (Fate s p) (sym e) (sym (before_is s n clock v)) (fate_run s clock m p h)
    go false r =
        let o = turns_taken_lem.out_of_range s n clock r in
        let e : took s (serve s n clock) ≡ no_turns = λ i. record { places = places_of s clock (report_in (o i).answer).turns; entries = take (report_in (o i).answer).turns (report_in (o i).answer).frames } in
        let f : host_after s (serve s n clock) ≡ s = λ i. record { gate = (o i).gate; list = list_after s.list (o i).lent } in
        subst₂ (Fate s p) (sym e) (sym f) (same_host s s p refl refl h)

-- ---- a frame is sent

module _ (s : Host) (p : ℕ) (h : Stands s.gate.queue s.list p) where
  -- what a call leaves that is lent the list and says this
  abbrev host_by : Says → Host
  host_by x = record { gate = left s.gate x; list = list_after s.list (lent_after (records s.list) x.lent) }

  abbrev Sends : Sending → Type 0
  Sends x = Fate s p no_turns (host_by (of_sending (view s.gate) x))

  fate_send : (frame : CanFrame) (class : TxClass) (owner : List ℕ) → Fate s p no_turns (host_after s (Gate.on_queue (Gate.send_can_frame s.list frame class owner)))
  unfolding step gives left says queueing served view sending unmet
  fate_send frame class owner =
      either (λ (x : Says). Fate s p no_turns (host_by x)) (in_range (view s.gate)) _ _
      (if_checked {P = Sends} (unsent s.gate.queue) _ _
      (λ a. record { holds = same_host s _ p refl refl h })
      (λ u. let full = not-true _ (simp and-eq-true_iff at u).1.1.1.0 in
      let room = ltb-false 15 s.gate.queue.count (neither _ _ full) in
      record { holds = one_more s _ p _ refl refl (omega arith) h })).holds
      (same_host s _ p refl refl h)

-- ---- every call, 25 included

served_keeps : (s : Host) (x : Says) → x.queue ≡ s.gate.queue → (served (view s.gate) x).queue ≡ s.gate.queue
unfolding served view
served_keeps s x e = either (λ (y : Says). y.queue ≡ s.gate.queue) (in_range (view s.gate)) x _ e refl

bytes_left : (ws : List Waiting) (out : List ℕ) (x : Left (List ℕ)) → list_after ws (lent_after (bytes out) (lent_as bytes x)) ≡ ws
bytes_left ws out stays = refl
bytes_left ws out (becomes b) = refl

fate_call : (s : Host) (k : Call) (p : ℕ) → goes_on k ≡ true → Lends s.list (lent_to k) → Stands s.gate.queue s.list p → Fate s p (took s k) (host_after s k)
unfolding step gives left says served saying saving view
fate_call s (Gate.new_gate_call settings methods count) p g e h = absurd (false≢true g)
fate_call s (Gate.start_validation phone method clock random) p g e h = same_host s _ p (served_keeps s _ refl) refl h
fate_call s (Gate.submit_validation_code phone typed clock) p g e h = same_host s _ p (served_keeps s _ refl) refl h
fate_call s (Gate.on_session k) p g e h = same_host s _ p (served_keeps s _ refl) refl h
fate_call s (Gate.on_lists k) p g e h = same_host s _ p (served_keeps s _ refl) refl h
fate_call s (Gate.on_save Gate.open_phone_validations_save) p g e h = same_host s _ p (served_keeps s _ refl) refl h
fate_call s (Gate.on_save (Gate.take_phone_validations_save out)) p g e h =
    same_host s _ p (served_keeps s _ refl)
    (either (λ (x : Says). list_after s.list (lent_after (bytes out) x.lent) ≡ s.list) (in_range (view s.gate)) _ _ (bytes_left s.list out (Save.taking s.gate.save out).lent) refl) h
fate_call s (Gate.on_queue (Gate.send_can_frame list frame class owner)) p g e h =
    subst (λ (l : List Waiting). Fate s p no_turns (host_after s (Gate.on_queue (Gate.send_can_frame l frame class owner)))) (sym e) (fate_send s p h frame class owner)
fate_call s (Gate.on_queue (Gate.serve_can_frames list n clock)) p g e h =
    let k : List Waiting → Call = λ l. Gate.on_queue (Gate.serve_can_frames l n clock) in
    subst (λ (l : List Waiting). Fate s p (took s (k l)) (host_after s (k l))) (sym e) (fate_serve s n clock p h)
fate_call s (Gate.on_core k) p g e h = same_host s _ p (served_keeps s _ refl) refl h
fate_call s (Gate.ask q) p g e h = same_host s _ p refl refl h

-- ---- any calls

abbrev host_after_all : Host → List Call → Host
host_after_all s [] = s
host_after_all s (k ∷ ks) = host_after_all (host_after s k) ks

fate_all : (s : Host) (ks : List Call) (p : ℕ) → Unaltered s ks → Stands s.gate.queue s.list p → Fate s p (all_took s ks) (host_after_all s ks)
fate_all s ks p end h = same_host s s p refl refl h
fate_all s ks p (next {k = k} {ks = r} g e u) h =
    and_then s (host_after s k) (host_after_all (host_after s k) r) p (took s k) (all_took (host_after s k) r) (fate_call s k p g e h) (λ p' h'. fate_all (host_after s k) r p' u h')

-- ---- the claim

-- each turn takes one place and is reported once
abbrev Each : Took → Type 0
Each a = length a.places ≡ length a.entries

places_length : (s : Host) (clock n : ℕ) → length (places_of s clock n) ≡ n
places_length s clock zero = refl
places_length s clock (suc n) = length-append (places_of s clock n) _ ∙ omega (arith, places_length s clock n)

abbrev Many : PackedReply → Type 0
Many r = (report_in r).turns ≡ length (take (report_in r).turns (report_in r).frames)

many : (ds : List Decided) (a : Answer) → Many (report a (report_of ds))
unfolding report_of
many ds a = ap length (sym (padded_take 16 no_decision ds))

each_serve : (s : Host) (list : List Waiting) (n clock : ℕ) → Each (took s (Gate.on_queue (Gate.serve_can_frames list n clock)))
unfolding step gives says queueing
each_serve s list n clock =
    places_length s clock _ ∙ either (λ (x : Says). Many (laid_reply x.answer)) (in_range (view s.gate)) _ _ (many _ Done) (many [] BadSettings)

each_call : (s : Host) (k : Call) → Each (took s k)
each_call s (Gate.new_gate_call settings methods count) = refl
each_call s (Gate.start_validation phone method clock random) = refl
each_call s (Gate.submit_validation_code phone typed clock) = refl
each_call s (Gate.on_session k) = refl
each_call s (Gate.on_lists k) = refl
each_call s (Gate.on_save k) = refl
each_call s (Gate.on_queue (Gate.send_can_frame list frame class owner)) = refl
each_call s (Gate.on_queue (Gate.serve_can_frames list n clock)) = each_serve s list n clock
each_call s (Gate.on_core k) = refl
each_call s (Gate.ask q) = refl

each_all : (s : Host) (ks : List Call) → Each (all_took s ks)
each_all s [] = refl
each_all s (k ∷ ks) =
    let a = took s k in
    let b = all_took (host_after s k) ks in
    omega (arith, length-append a.places b.places, length-append a.entries b.entries, each_call s k, each_all (host_after s k) ks)

-- the turns left are below 4 × (k + 1), of which what does not wait is no part
left_bound : (s : Host) (p : ℕ) → p < count_of s → count_of s ≤ length s.list → left_of s.gate.queue s.list p < bound s p
unfolding waiting_of
left_bound s p h fits =
    let l = s.list in
    let n = count_of s in
    let w : record_at (waiting_of l n) p ≡ record_at l p = waiting_at_lem l n p h in
    let k : before (bus_of (record_at l p)) l p ≡ before (bus_of (record_at l p)) (waiting_of l n) p =
    ap (λ (m : List Waiting). before (bus_of (record_at l p)) m p) (sym (take-append-drop n l)) ∙ before_more (bus_of (record_at l p)) p (waiting_of l n) (drop n l) (omega (arith, waiting_length l n)) in
    rw k (rw w at (turns_bounded s.gate.queue.last (waiting_of l n) p))

-- it is decided in time, if it would have had so many turns where it waited still
in_time_lem : (s t : Host) (p : ℕ) (a : Took) → Each a → left_of s.gate.queue s.list p < bound s p → ((q : ℕ) → Stands t.gate.queue t.list q → bound s p ≤ length a.entries) → Fate s p a t → InTime s p a
in_time_lem s t p a e l h (decided i k n m f) =
    let u : turns_until p a.places ≡ i = ap (turns_until p) (sym (append-nil a.places)) ∙ m [] in
    record { each = e; within = omega arith; frame = rw u f }
in_time_lem s t p a e l h (waits p' k f n m) = let j = h p' k in absurd (omega arith)

stands : (s : Host) (p : ℕ) → TakesTurns s → p < count_of s → Stands s.gate.queue s.list p
unfolding in_range view
stands s p h w =
    let q = queue_in s.gate.queue (simp and-eq-true_iff at h.ranged).1 in
    record { waits = w; few = q.0; bus = omega (arith, q.1); sixteen = h.sixteen }

fair_calls : (s : Host) (p : ℕ) (ks : List Call) → TakesTurns s → p < count_of s → Unaltered s ks → bound s p ≤ length (all_took s ks).entries → InTime s p (all_took s ks)
fair_calls s p ks h w u l =
    let k = stands s p h w in
    in_time_lem s (host_after_all s ks) p (all_took s ks) (each_all s ks) (left_bound s p w (omega (arith, k.few, k.sixteen))) (λ q v. l) (fate_all s ks p u k)

-- a run that leaves one waiting took as many turns as it was given
fair_run : (s : Host) (p n clock : ℕ) → TakesTurns s → p < count_of s → bound s p ≤ n → InTime s p (took s (serve s n clock))
fair_run s p n clock h w l =
    let k = stands s p h w in
    let m = min n (count_of s) in
    let long : length (entries s.gate (serve s n clock)) ≡ m = ap length (entries_are s n clock h) ∙ run_length s clock m in
    let rest : count_of (host_after s (serve s n clock)) ≡ count_of s - m = ap count_of (before_is s n clock h) ∙ run_count s clock m in
    in_time_lem s (host_after s (serve s n clock)) p (took s (serve s n clock)) (each_serve s s.list n clock) (left_bound s p w (omega (arith, k.few, k.sixteen)))
    (λ q v. omega (arith, long, rest, v.waits))
    (fate_serve s n clock p k)

pub fair : Fair
fair = record { taken = fair_calls; given = fair_run }
