use Rattle.state.specs.View.{view}
use Rattle.answers.specs.Query.{is_can_dev_write_unlocked, answer_to}
use Rattle.definition.proofs.Asked.{by_query}
use Rattle.queries.proofs.is_can_dev_write_unlocked.Goals as goal

pub returns : goal.returns
unfolding answer_to view
returns c = let a = c.args in by_query a.g is_can_dev_write_unlocked _ (rw (c.answer_yes_no.ensures, c.is_can_dev_write_unlocked.ensures))
