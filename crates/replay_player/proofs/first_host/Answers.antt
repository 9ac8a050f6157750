use Rattle.std.proofs.Common.{ap, ◌∙◌}
use Rattle.definition.specs.Gate.{Given}
use Rattle.replay_host.specs.Host.{first_host}
use Rattle.replay_player.proofs.first_host.Goals as goal

pub returns : goal.returns
returns c = λ g. c.first_host.ensures ∙ ap first_host (ap (λ (d : Given). d.gate) (c.new_gate-made.ensures g) ∙ rw c.no_method.ensures)
