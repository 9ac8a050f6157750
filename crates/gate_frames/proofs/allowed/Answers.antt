use Rattle.std.proofs.Common.{Bool, ◌≡◌, ap, ◌∙◌}
use Rattle.state.specs.View.{view, lists_in}
use Rattle.phone_trust.specs.Trust.{is_validated}
use Rattle.can_tx.specs.Tx.{allow}
use Rattle.definition.specs.Gate.{said}
use Rattle.outcomes.specs.Served.{said_on}
use Rattle.gate_frames.proofs.Laws.{allow_of_class}
use Rattle.gate_frames.proofs.allowed.Goals as goal

pub returns-then-in_range : goal.returns-then-in_range
unfolding said said_on view
returns-then-in_range c =
    let a = c.args in
    let v = is_validated a.g.core.policy.identity (lists_in a.g.phones) a.owner.now in
    let o : c.allow_can_tx.result ≡ allow a.g.core a.bus a.frame a.class v a.clock =
    c.allow_can_tx.ensures ∙ ap (λ (t : Bool). allow a.g.core a.bus a.frame a.class t a.clock) c.owner_validated-validated.ensures
    ∙ allow_of_class a.g.core a.bus a.frame a.class v a.clock
    in
    rw (← c.in_range.ensures, c.if-in_range.true) o

pub returns-else-in_range : goal.returns-else-in_range
unfolding said said_on view
returns-else-in_range c = rw (← c.in_range.ensures, c.if-in_range.false, ← c.out_of_range.ensures)
