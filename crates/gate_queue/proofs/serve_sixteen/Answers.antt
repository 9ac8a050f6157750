use Rattle.std.proofs.Common.{sym, ◌∙◌}
use Rattle.state.specs.View.{view}
use Rattle.range.proofs.Laws.{few_wait}
use Rattle.gate_queue.proofs.serve_sixteen.Goals as goal

pub serve_can_frames-x-requires : goal.serve_can_frames-x-requires
unfolding view
serve_can_frames-x-requires c = few_wait (view c.args.g) (sym c.in_range.ensures ∙ c.if-in_range.true)
