use Rattle.state.specs.View.{view}
use Rattle.answers.specs.Query.{has_can_dev_write_lock, answer_to}
use Rattle.definition.proofs.Asked.{by_query}
use Rattle.queries.proofs.has_can_dev_write_lock.Goals as goal

pub returns : goal.returns
unfolding answer_to view
returns c = let a = c.args in by_query a.g has_can_dev_write_lock _ (rw (c.answer_yes_no.ensures, c.has_can_dev_write_lock.ensures))
