use Rattle.state.specs.Replies.{nothing_raised, no_signals}
use Rattle.new_gate.specs.New.{new_gate}
use Rattle.definition.specs.Gate.{says, left, gives, step}
use Rattle.gate_sessions.proofs.new_gate.Goals as goal

pub returns : goal.returns
unfolding step says gives left new_gate no_signals nothing_raised
returns c = λ g. rw c.new_gate.ensures
