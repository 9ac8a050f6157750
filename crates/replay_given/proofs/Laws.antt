-- A call on waiting frames leaves the records that are not lent; so much room the line of a run takes.
use Rattle.std.proofs.Common.{◌≡◌, ◌∙◌, ℕ, true, List, ◌++◌, take, drop, lit≤, take-append-drop}
use mir.Val.{Val}
use Rattle.definition.specs.Gate.{Given, given, lent_records, ran_given}
use Rattle.replay_frames.specs.Frames as Frames
use Rattle.replay_frames.proofs.Room.{report_in_lem}
use Rattle.replay_host.specs.Host.{with_gate, with_list}
use Rattle.replay_host.specs.declared.Host.{Host}
use Rattle.replay_page.specs.Page.{Page, ◌▸◌}
use Rattle.replay_lines.proofs.AnswerRoom.{Owned}
use Rattle.replay_page.proofs.Room.{◌⊕◌, upto}
use Rattle.replay_signals.specs.Signals.{signals}
use Rattle.replay_signals.proofs.Room.{signals_in}
use Rattle.state.specs.declared.Outcome.{Outcome}
use Rattle.state.specs.declared.Ran.{Ran}
use Rattle.state.specs.contracts.Ran as Ran
use Rattle.waiting_list.specs.declared.Waiting.{Waiting}
use Rattle.replay_given.specs.Turns.{Turn, laid, turn_room, TurnFits, Lays}
use Rattle.replay_given.specs.declared.Played.{Played}

-- what is laid down of one is laid down of the other
pub lays_as : (f g : Page → Turn) → ((p : Page) → f p ≡ g p) → (p : Page) (r : Played) (memory : List ℕ) → Lays f p r memory → Lays g p r memory
lays_as f g e p r memory u = (u.0 ∙ e p, record { fits = λ q k. rw (← e q) (u.1.fits q k) })

-- what a run gives, and the list that it leaves
abbrev pub ran_turn : Host → List Waiting → Ran → Page → Turn
ran_turn h l r p = record { host = with_gate (with_list h l) r.outcome.gate; page = p ▸ Frames.report r.outcome.answer r.report ▸ signals r.outcome.signals; called = true }

module _ (h : Host) (l : List Waiting) (rest : drop h.lent l ≡ drop h.lent h.list) where
  list_left : take h.lent l ++ drop h.lent h.list ≡ l
  list_left = rw (← rest) (take-append-drop h.lent l)

  pub laid_sent : (o : Outcome) (d : Given) → lent_records o (take h.lent l) ≡ d → (p : Page) → laid (with_list h l) (given o) p ≡ laid h d p
  unfolding laid
  laid_sent o d e p = rw (← e, list_left)

  pub laid_served : (r : Ran) (d : Given) → ran_given r (take h.lent l) ≡ d → (p : Page) → ran_turn h l r p ≡ laid h d p
  unfolding laid
  laid_served r d e p = rw (← e, list_left)

pub served_fits : (h : Host) (l : List Waiting) (r : Ran) (vs : List Val) → Owned Ran.the_field r vs → TurnFits (ran_turn h l r)
served_fits h l r vs k =
    let o = k.1.1.0 in
    upto turn_room (lit≤ tt) (report_in_lem r.outcome.answer r.report _ _ o.1.1.0 k.1.1.1.0 ⊕ signals_in r.outcome.signals _ o.1.1.1.0)
