use Rattle.std.proofs.Common.{◌≡◌, ◌∙◌, ap, Option, List, ℕ, is_some, unwrap_or}
use Rattle.draw.specs.Draw.{drawn}
use Rattle.state.specs.Replies.{no_code}
use Rattle.state.specs.View.{view}
use Rattle.validation.specs.Calls.{start}
use Rattle.definition.specs.Gate.{is_lent, says, step}
use Rattle.outcomes.specs.Served.{said_on}
use Rattle.outcomes.proofs.Laws.{by_said}
use Rattle.gate_sessions.proofs.start_validation.Goals as goal

pub returns : goal.returns
unfolding step says view said_on
returns c =
    let a = c.args in
    let d = drawn a.random.now a.g.core.settings.digits in
    let code : c.unwrap_or.result ≡ unwrap_or d no_code = c.unwrap_or.ensures ∙ ap (λ (o : Option (List ℕ)). unwrap_or o no_code) c.draw-drawn.ensures in
    let some : c.is_some.result ≡ is_some d = c.is_some.ensures ∙ ap (λ (o : Option (List ℕ)). is_some o) c.draw-drawn.ensures in
    rw (← code, ← some)
    (by_said a.g _ _ (start a.g.core a.phone.now a.method.now a.clock (is_lent a.random.now) _) _ (rw (← c.in_range-fits.ensures) c.started-said.ensures) c.drew.ensures)
