-- The host is the same whatever was laid down; the next number wraps. Assumes nothing.
use Rattle.replay_page.specs.Page.{page}
use Rattle.replay.specs.Script.{line_in}
use Rattle.replay.proofs.Laws.{after_line}
use Rattle.std.proofs.Common.{rules}
use Rattle.replay.proofs.finish_line.Goals as goal

pub print-requires : goal.print-requires
print-requires g c = c.give_line-r.ensures.1

pub returns : goal.returns
returns g c =
    let a = c.args in
    let h = after_line a.states a.p.host a.p.number (line_in a.line.now a.p.len) (page a.out.now 0) _ c.give_line-r.ensures.0 in
    rw (← h)
