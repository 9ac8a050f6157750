-- One call: what it hands out and what it leaves of the save are what the save had left.
use Prim.Native.Nat.{ℕ, ◌+◌, ◌-◌, min}
use mathlib.Core.Path.{◌≡◌, refl, sym, ap, ◌∙◌}
use mathlib.Core.Bool.{Bool, true, false, cond, false≢true}
use mathlib.Core.List.{List, [], ◌++◌}
use native.Mathlib.Omega.{arith}
use borrow.Author.Tests.{eqb-true, eqb-false, eq-eqb, ne_eqb}
use lib.Dec.{eqb}
use lib.ListN.{length, take, drop, length-drop, take-append-drop, drop_of_length-le}
use lib.Seq.{length-take-le, drop-drop, take_at}
use Rattle.arrays.specs.Arrays.{put}
use Rattle.phones.specs.Ids.{Left, stays, becomes}
use Rattle.state.specs.declared.Gate.{Gate}
use Rattle.state.specs.declared.Save.{Save}
use Rattle.state.specs.declared.Answer.{Answer}
use Rattle.state.specs.declared.Answer.TheVariants.{Taken, NoSave, BadSettings}
use Rattle.state.specs.Answers.{Values, values}
use Rattle.state.specs.Checks.{checked}
use Rattle.state.specs.View.{view}
use Rattle.range.specs.Range.{in_range}
use Rattle.save.specs.Save.{Saving, no_save, rest, behind, refused, taking}
use Rattle.save.proofs.Laws.{take_none}
use Rattle.answers.specs.Query.{numbered_reply}
use Rattle.waiting_list.specs.declared.Waiting.{Waiting}
use Rattle.can_queue.specs.Calls.{sending}
use Rattle.definition.specs.Gate as Gate
use Rattle.definition.specs.Gate.{Call, Says, saying, of_save, served, saving, queueing, says, Given, bytes, records, lent_as, lent_after, left, gives, packed, step, after}
use Rattle.footprint.proofs.Keeps.{either}
use Rattle.stays_in_range.specs.Stays.{InRange}
use Rattle.joined.specs.Joined.{is_open, bytes_left, goes_on, Handed, nothing_handed, of_answer, of_call, hands, take_into, Takes, Refuses}

-- ---- a take of a save

abbrev pub left_of : Save → List ℕ
left_of s = cond s.present (rest s) []

module _ (s : Save) (out : List ℕ) (p : s.present ≡ true) where
  abbrev n : ℕ
  n = min (length out) (length (rest s))

  abbrev end : Bool
  end = eqb n (length (rest s))

  abbrev next : Save
  next = cond end no_save (behind s n)

  taking_is : taking s out ≡ record { answer = Taken n end; save = next; lent = becomes (put out 0 (take n (rest s))) }
  unfolding taking checked
  taking_is = rw p

  -- lent bytes past those handed out stay
  front : put out 0 (take n (rest s)) ≡ take n (rest s) ++ drop n out
  unfolding put
  front = let l = length-take-le n (rest s) (omega arith) in let e : 0 + length (take n (rest s)) ≡ n = omega arith in rw e

  next_left : left_of next ≡ drop n (rest s)
  unfolding no_save rest
  next_left = go end refl
    where
      go : (b : Bool) → end ≡ b → left_of (cond b no_save (behind s n)) ≡ drop n (rest s)
      go true e = let q = eqb-true n (length (rest s)) e in sym (drop_of_length-le (rest s) {i = n} (omega arith))
      go false e = rw p (sym (drop-drop n s.at (take s.stored.len s.stored.bytes)))

  next_open : next.present ≡ cond end false s.present
  unfolding no_save
  next_open = go end
    where
      go : (b : Bool) → (cond b no_save (behind s n)).present ≡ cond b false s.present
      go true = refl
      go false = refl

  end_is : end ≡ eqb (length (left_of next)) 0
  end_is = rw (next_left, length-drop n (rest s)) (go end refl)
    where
      go : (b : Bool) → end ≡ b → b ≡ eqb (length (rest s) - n) 0
      go true e = let q = eqb-true n (length (rest s)) e in sym (eq-eqb (length (rest s) - n) 0 (omega arith))
      go false e = sym (ne_eqb (length (rest s) - n) 0 (λ z. eqb-false n (length (rest s)) e (omega arith)))

-- ---- a take at a gate in range

module _ (g : Gate) (out : List ℕ) where
  abbrev given : Saving → Given
  given x = gives packed g (bytes out) (of_save (view g) x)

  step_is : InRange g → step g (take_into out) ≡ given (taking g.save out)
  unfolding step says served saving view
  step_is r = rw r

  pub takes : InRange g → is_open g ≡ true → Takes g out
  unfolding gives left
  takes r p =
      let e = step_is r ∙ ap given (taking_is g.save out p) in
      let v : (after g (take_into out)).save ≡ next g.save out p = λ i. (e i).gate.save in
      record {
        answer = (λ i. (e i).answer) ∙ rw (ap left_of v, ← end_is g.save out p, p);
        lent = (λ i. (e i).lent) ∙ rw (front g.save out p, p);
        leaves = ap left_of v ∙ next_left g.save out p ∙ rw p;
      }

  pub refuses : InRange g → is_open g ≡ false → Refuses g out
  unfolding gives left view
  refuses r p =
      let e = step_is r ∙ ap given (take_none g.save out p) in
      record { answer = λ i. (e i).answer; lent = λ i. (e i).lent; gate = λ i. (e i).gate }

-- ---- every call, 25 included

pub record Turn (g : Gate) (k : Call) : Type 0 where
  pub joins : (hands g k).bytes ++ bytes_left (after g k) ≡ bytes_left g
  pub closes : is_open (after g k) ≡ cond (hands g k).end false (is_open g)

-- a call that hands out nothing and leaves the save
still : (g : Gate) (k : Call) → hands g k ≡ nothing_handed → (after g k).save ≡ g.save → Turn g k
still g k e v = record {
  joins = (λ i. (e i).bytes ++ left_of (v i));
  closes = (λ i. (v i).present) ∙ rw e;
}

module _ (g : Gate) (out : List ℕ) where
  abbrev takes_as : Given → Handed
  takes_as o = of_call o.lent o.numbered.values

  turn_open : InRange g → is_open g ≡ true → Turn g (take_into out)
  unfolding gives left
  turn_open r p =
      let s = g.save in
      let m = n s out p in
      let e = step_is g out r ∙ ap (given g out) (taking_is s out p) in
      let got : take m (put out 0 (take m (rest s))) ≡ take m (rest s) = rw (front s out p) (take_at (take m (rest s)) (drop m out) m (length-take-le m (rest s) (omega arith))) in
      record {
        joins = (λ i. (takes_as (e i)).bytes ++ bytes_left (e i).gate) ∙ rw (got, next_left s out p, take-append-drop m (rest s), p);
        closes = (λ i. (e i).gate.save.present) ∙ next_open s out p ∙ sym (λ i. cond (takes_as (e i)).end false (is_open g));
      }

  -- 31 and 25
  turn_refused : (a : Answer) → of_answer out (values a) ≡ nothing_handed → step g (take_into out) ≡ given g out (refused g.save a) → Turn g (take_into out)
  unfolding gives left
  turn_refused a h e = still g (take_into out) ((λ i. takes_as (e i)) ∙ h) (λ i. (e i).gate.save)

  turn_take : Turn g (take_into out)
  unfolding step says served view
  turn_take = go (in_range (view g)) refl (is_open g) refl
    where
      go : (b : Bool) → in_range (view g) ≡ b → (o : Bool) → is_open g ≡ o → Turn g (take_into out)
      go true r true p = turn_open r p
      go true r false p = turn_refused NoSave refl (step_is g out r ∙ ap (given g out) (take_none g.save out p))
      go false r o p = turn_refused BadSettings refl (rw r)

served_keeps : (g : Gate) (s : Says) → s.save ≡ g.save → (served (view g) s).save ≡ g.save
unfolding served view
served_keeps g s e = either (λ (x : Says). x.save ≡ g.save) (in_range (view g)) s _ e refl

-- a call that is lent records hands out no bytes
abbrev HandsNone : List Waiting → Says → Type 0
HandsNone ws s = of_call (lent_after (records ws) s.lent) (numbered_reply s.answer).values ≡ nothing_handed

none_handed : (ws : List Waiting) (x : Left (List Waiting)) (v : Values) → of_call (lent_after (records ws) (lent_as records x)) v ≡ nothing_handed
none_handed ws stays v = refl
none_handed ws (becomes l) v = refl

pub turn : (g : Gate) (k : Call) → goes_on k ≡ true → Turn g k
unfolding step gives left says served queueing saying view
turn g (Gate.new_gate_call settings methods count) h = absurd (false≢true h)
turn g (Gate.start_validation phone method clock random) h = still g _ refl (served_keeps g _ refl)
turn g (Gate.submit_validation_code phone typed clock) h = still g _ refl (served_keeps g _ refl)
turn g (Gate.on_session k) h = still g _ refl (served_keeps g _ refl)
turn g (Gate.on_lists k) h = still g _ refl (served_keeps g _ refl)
turn g (Gate.on_save Gate.open_phone_validations_save) h = absurd (false≢true h)
turn g (Gate.on_save (Gate.take_phone_validations_save out)) h = turn_take g out
turn g (Gate.on_queue (Gate.send_can_frame list frame class owner)) h =
    let x = sending g.queue list frame class owner in
    still g _ (either (HandsNone list) (in_range (view g)) _ _ (none_handed list x.lent (values x.answer)) refl) (served_keeps g _ refl)
turn g (Gate.on_queue (Gate.serve_can_frames list turns clock)) h =
    still g _ (either (HandsNone list) (in_range (view g)) _ _ refl refl) (either (λ (s : Says). s.save ≡ g.save) (in_range (view g)) _ _ refl refl)
turn g (Gate.on_core k) h = still g _ refl (served_keeps g _ refl)
turn g (Gate.ask q) h = still g _ refl refl
