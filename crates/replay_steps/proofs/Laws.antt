-- A query leaves the gate and raises nothing, and what is done with a save raises nothing; so much room their lines take.
use Rattle.std.proofs.Common.{◌≡◌, refl, Bool, true, false, cond, List, ℕ, ◌≤◌, length, lit≤}
use mir.Val.{Val}
use Rattle.answers.specs.Query.{Query, plain}
use Rattle.definition.specs.Gate.{SaveCall, Lent, on_save, ask, answered, saving, of_save, asked, served, says, left, packed, gives, lent_given, step}
use Rattle.range.specs.Range.{in_range}
use Rattle.replay_answers.specs.Query.{long_room}
use Rattle.replay_host.specs.declared.Host.{Host}
use Rattle.replay_lines.specs.Answer.{answer}
use Rattle.replay_lines.specs.Lent.{most_lent}
use Rattle.replay_page.specs.Page.{Page}
use Rattle.replay_page.specs.Room.{Within}
use Rattle.replay_lines.proofs.AnswerRoom.{Owned, answer_in}
use Rattle.replay_page.proofs.Room.{◌⊕◌, upto}
use Rattle.replay_lines.proofs.Room.{output_in}
use Rattle.replay_signals.specs.Signals.{signals}
use Rattle.replay_signals.proofs.Room.{no_signals_in}
use Rattle.save.specs.Save.{Saving}
use Rattle.state.specs.Replies.{nothing_raised, no_signals}
use Rattle.state.specs.View.{view}
use Rattle.state.specs.declared.Answer.{Answer}
use Rattle.state.specs.declared.Answer.TheVariants.{BadSettings}
use Rattle.state.specs.declared.Gate.{Gate}
use Rattle.state.specs.declared.Outcome.{Outcome}
use Rattle.state.specs.contracts.Answer as Answer
use Rattle.state.specs.contracts.Outcome as Outcome
use Rattle.replay_queries.specs.Shown.{shown}
use Rattle.replay_given.specs.Turns.{laid, calm, calm_room, turn_room, TurnFits}

pub laid_ask : (h : Host) (q : Query) (p : Page) → laid h (step h.gate (ask q)) p ≡ calm h (shown (step h.gate (ask q)).answer p)
unfolding laid step gives says left view nothing_raised no_signals
laid_ask h q p = refl

pub ask_fits : (h : Host) (q : Query) → Within long_room (shown (step h.gate (ask q)).answer) → Within calm_room (signals no_signals) → TurnFits (laid h (step h.gate (ask q)))
ask_fits h q u v = record { fits = λ p r. rw (laid_ask h q p) ((upto turn_room (lit≤ tt) (u ⊕ v)).fits p r) }

-- an answer alone, as it is shown
module _ (g : Gate) (q : Query) (a : Answer) (e : answered g (plain a) ≡ step g (ask q)) where
  pub plain_shown : (p : Page) → answer a p ≡ shown (step g (ask q)).answer p
  plain_shown p = rw (← e)

  pub plain_in : (vs : List Val) → Owned Answer.the_field a vs → Within long_room (shown (step g (ask q)).answer)
  plain_in vs k = rw (← e) (upto long_room (lit≤ tt) (answer_in a vs k))

-- ---- a save

-- served or not
quiet_by : (b : Bool) (g : Gate) (m : Lent) (x : Saving) → (gives packed g m (cond b (of_save (view g) x) (asked (view g) (plain BadSettings)))).signals ≡ no_signals
unfolding gives nothing_raised no_signals
quiet_by true g m x = refl
quiet_by false g m x = refl

pub save_quiet : (g : Gate) (k : SaveCall) → (step g (on_save k)).signals ≡ no_signals
unfolding step says served
save_quiet g k = quiet_by (in_range (view g)) g _ (saving (view g).lists.store (view g).save k)

pub quiet_fits : (h : Host) (o : Outcome) (vs : List Val) → Owned Outcome.the_field o vs → o.signals ≡ no_signals → (lent : List ℕ) → length lent ≤ most_lent → TurnFits (laid h (lent_given o lent))
unfolding laid
quiet_fits h o vs k e lent few = rw e (upto turn_room (lit≤ tt) (answer_in o.answer _ k.1.1.0 ⊕ output_in lent few ⊕ no_signals_in))
