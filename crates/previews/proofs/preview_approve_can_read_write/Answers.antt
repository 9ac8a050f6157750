use Rattle.state.specs.Replies.{nothing_raised}
use Rattle.state.specs.View.{view, lists_stay}
use Rattle.can_access.specs.Approval.{approve}
use Rattle.answers.specs.Query.{preview_approve_can_read_write, answer_to}
use Rattle.definition.proofs.Asked.{by_query}
use Rattle.previews.proofs.preview_approve_can_read_write.Goals as goal

pub returns : goal.returns
unfolding answer_to view lists_stay
returns c =
    let a = c.args in
    by_query a.g preview_approve_can_read_write _ (c.foreseen.ensures (lists_stay nothing_raised (approve a.g.core).answer) (rw (c.nothing_raised.ensures, c.approve_can_read_write.ensures)))
