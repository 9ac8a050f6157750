-- How the two calls come to be what `step` gives.
use Rattle.std.proofs.Common.{◌≡◌, refl, sym, ap, ◌∙◌, Bool, true, false, cond, List, [], ℕ, eqb, length}
use Rattle.phones.specs.Ids.{afterwards}
use Rattle.frames.specs.declared.CanFrame.{CanFrame}
use Rattle.frames.specs.declared.TxClass.{TxClass}
use Rattle.waiting_list.specs.declared.Waiting.{Waiting}
use Rattle.state.specs.declared.Answer.TheVariants.{Done, BadSettings}
use Rattle.state.specs.declared.Gate.{Gate}
use Rattle.state.specs.Replies.{nothing_raised, no_signals}
use Rattle.state.specs.View.{view, lists_in}
use Rattle.range.specs.Range.{in_range}
use Rattle.answers.specs.Query.{plain, report}
use Rattle.can_queue.specs.Calls.{Sending, unsent, sending}
use Rattle.can_turns.specs.Turns.{Serving, no_turn, serving, report_of}
use Rattle.can_turns.specs.Steps.{run_of}
use Rattle.can_queue.proofs.Laws.{sending_other}
use Rattle.can_turns.proofs.Laws.{serving_other}
use Rattle.definition.specs.Gate.{send_can_frame, serve_can_frames, on_queue, records, of_sending, of_serving, asked, served, queueing, says, gives, left, packed, step, lent_records, ran_given}
use Rattle.outcomes.specs.Settled.{queued}
use Rattle.state.specs.declared.Outcome.{Outcome}
use Rattle.state.specs.declared.Ran.{Ran}
use Rattle.gate_queue.specs.declared.SentOn.{SentOn}
use Rattle.gate_queue.specs.declared.RanOn.{RanOn}
use Rattle.outcomes.proofs.Laws.{lent_as_lem}
use Rattle.gate_queue.specs.Given.{sending_on, sent_of, unsent_of, ran_of, served_of, unserved_of}

module _ (g : Gate) (ws : List Waiting) where
  -- ---- sending

  by_sending : (x : Sending) → lent_records (queued g x.answer g.core x.queue) (afterwards ws x.lent) ≡ gives packed g (records ws) (of_sending (view g) x)
  unfolding gives left view no_signals nothing_raised
  by_sending x = rw (lent_as_lem records ws x.lent)

  -- 25 before what is said, or in it
  sending_or : (b : Bool) (x : Sending) → cond b (of_sending (view g) x) (asked (view g) (plain BadSettings)) ≡ of_sending (view g) (cond b x (unsent g.queue BadSettings))
  unfolding view
  sending_or true x = refl
  sending_or false x = refl

  by_sent : (frame : CanFrame) (class : TxClass) (owner : List ℕ) (x : Sending) → x ≡ sending_on g (sending g.queue ws frame class owner)
      → lent_records (queued g x.answer g.core x.queue) (afterwards ws x.lent) ≡ step g (on_queue (send_can_frame ws frame class owner))
  unfolding step says queueing served sending_on view
  by_sent frame class owner x e =
      by_sending x ∙
      ap (λ (t : Sending). gives packed g (records ws) (of_sending (view g) t)) e ∙
      sym (ap (gives packed g (records ws)) (sending_or (in_range (view g)) (sending g.queue ws frame class owner)))

  pub sends : (frame : CanFrame) (class : TxClass) (owner : List ℕ) → lent_records (sent_of g ws frame class owner).outcome (sent_of g ws frame class owner).all ≡ step g (on_queue (send_can_frame ws frame class owner))
  sends frame class owner = by_sent frame class owner (sending_on g (sending g.queue ws frame class owner)) refl

  -- a list of another length is as it was
  pub sends_none : (frame : CanFrame) (class : TxClass) (owner : List ℕ) → eqb (length ws) 16 ≡ false → lent_records (unsent_of g frame class owner) ws ≡ step g (on_queue (send_can_frame ws frame class owner))
  unfolding sending_on
  sends_none frame class owner e =
      by_sent frame class owner (unsent g.queue (sending_on g (sending g.queue [] frame class owner)).answer)
      (sym (ap (sending_on g) (sending_other g.queue ws frame class owner e) ∙ go (in_range (view g)) (sending g.queue [] frame class owner)))
    where
      go : (b : Bool) (x : Sending) → cond b (unsent g.queue x.answer) (unsent g.queue BadSettings) ≡ unsent g.queue (cond b x (unsent g.queue BadSettings)).answer
      go true x = refl
      go false x = refl

  -- as the call puts it together
  pub sends_by : (frame : CanFrame) (class : TxClass) (owner : List ℕ) (l : List Waiting) (o : SentOn) (r : Outcome) (m : List Waiting)
      → l ≡ ws → o ≡ sent_of g l frame class owner → r ≡ o.outcome → m ≡ o.all → lent_records r m ≡ step g (on_queue (send_can_frame ws frame class owner))
  sends_by frame class owner l o r m e₁ e₂ e₃ e₄ =
      ap (λ (t : Outcome). lent_records t m) e₃ ∙ ap (lent_records o.outcome) e₄ ∙ ap (λ (t : SentOn). lent_records t.outcome t.all) e₂ ∙
      ap (λ (t : List Waiting). lent_records (sent_of g t frame class owner).outcome (sent_of g t frame class owner).all) e₁ ∙ sends frame class owner

  -- ---- serving

  by_serving : (x : Serving) → ran_given (ran_of g Done (run_of x)).ran x.list ≡ gives packed g (records ws) (of_serving (view g) x)
  unfolding gives left view no_signals nothing_raised
  by_serving x = refl

  by_none : ran_given (ran_of g BadSettings (run_of (no_turn g.core g.queue ws))).ran ws ≡ gives packed g (records ws) (asked (view g) (report BadSettings (report_of [])))
  unfolding gives left view no_signals nothing_raised
  by_none = refl

  pub serves : (n clock : ℕ) → ran_given (served_of g ws n clock).ran (served_of g ws n clock).all ≡ step g (on_queue (serve_can_frames ws n clock))
  unfolding step says queueing served_of view
  serves n clock = go (in_range (view g)) (serving g.core (lists_in g.phones) g.queue ws n clock)
    where
      go : (b : Bool) (x : Serving) → ran_given (cond b (ran_of g Done (run_of x)) (ran_of g BadSettings (run_of (no_turn g.core g.queue ws)))).ran (cond b (ran_of g Done (run_of x)) (ran_of g BadSettings (run_of (no_turn g.core g.queue ws)))).all
          ≡ gives packed g (records ws) (cond b (of_serving (view g) x) (asked (view g) (report BadSettings (report_of []))))
      go true x = by_serving x
      go false x = by_none

  -- a list of another length is as it was
  pub serves_none : (n clock : ℕ) → eqb (length ws) 16 ≡ false → ran_given (unserved_of g) ws ≡ step g (on_queue (serve_can_frames ws n clock))
  unfolding step says queueing view
  serves_none n clock e = rw (serving_other g.core (lists_in g.phones) g.queue ws n clock e) (go (in_range (view g)))
    where
      go : (b : Bool) → ran_given (record { outcome = queued g (cond b Done BadSettings) g.core g.queue; report = report_of [] }) ws
          ≡ gives packed g (records ws) (cond b (of_serving (view g) (no_turn g.core g.queue ws)) (asked (view g) (report BadSettings (report_of []))))
      go true = by_serving (no_turn g.core g.queue ws)
      go false = by_none

  -- as the call puts it together
  pub serves_by : (n clock : ℕ) (l : List Waiting) (o : RanOn) (r : Ran) (m : List Waiting)
      → l ≡ ws → o ≡ served_of g l n clock → r ≡ o.ran → m ≡ o.all → ran_given r m ≡ step g (on_queue (serve_can_frames ws n clock))
  serves_by n clock l o r m e₁ e₂ e₃ e₄ =
      ap (λ (t : Ran). ran_given t m) e₃ ∙ ap (ran_given o.ran) e₄ ∙ ap (λ (t : RanOn). ran_given t.ran t.all) e₂ ∙
      ap (λ (t : List Waiting). ran_given (served_of g t n clock).ran (served_of g t n clock).all) e₁ ∙ serves n clock
