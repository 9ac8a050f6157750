use Rattle.state.specs.View.{view}
use Rattle.answers.specs.Query.{is_can_fd_bus, answer_to}
use Rattle.definition.proofs.Asked.{by_query}
use Rattle.queries.proofs.is_can_fd_bus.Goals as goal

pub returns : goal.returns
unfolding answer_to view
returns c = let a = c.args in by_query a.g (is_can_fd_bus a.bus) _ (rw (c.answer_yes_no.ensures, c.is_can_fd_bus.ensures))
