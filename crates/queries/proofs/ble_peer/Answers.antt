use Rattle.answers.specs.Answers.{peer_answer}
use Rattle.state.specs.View.{view}
use Rattle.answers.specs.Query.{ble_peer, answer_to}
use Rattle.definition.proofs.Asked.{by_query}
use Rattle.queries.proofs.ble_peer.Goals as goal

pub returns-then-in_range : goal.returns-then-in_range
unfolding answer_to view peer_answer
returns-then-in_range c = let a = c.args in by_query a.g ble_peer _ (rw (c.peer_of.ensures, ← c.in_range.ensures, c.if-in_range.true))

pub returns-else-in_range : goal.returns-else-in_range
unfolding answer_to view peer_answer
returns-else-in_range c = let a = c.args in by_query a.g ble_peer _ (rw (c.no_peer.ensures, ← c.in_range.ensures, c.if-in_range.false))
