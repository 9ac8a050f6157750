use Rattle.std.proofs.Common.{arith}
use Rattle.replay_page.specs.Page.{page}
use Rattle.replay_lines.proofs.Laws.{fields_again, fields_end}
use Rattle.replay_lines.proofs.fields.put_fields.Goals as goal

pub loop-f-preserved : goal.loop-f-preserved
loop-f-preserved c =
    let a = c.args in
    let l = c.loop-f in
    let put = c.put_field-k in
    fields_again a.lent.now a.fields.now l.f-index (page a.out.now a.at) (page l.out l.k) l.invariant _ (page put.new.out put.result) (omega arith) put.ensures

pub returns : goal.returns
returns c =
    let a = c.args in
    let l = c.loop-f in
    fields_end a.lent.now a.fields.now l.f-index (page a.out.now a.at) (page l.out l.k) l.invariant (omega arith)
