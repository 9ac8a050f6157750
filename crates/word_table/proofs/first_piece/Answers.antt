use Rattle.std.proofs.Common.{arith, rules, length-take}
use Rattle.word_table.proofs.Laws.{end_inside, first_cut, no_bytes}
use Rattle.word_table.proofs.first_piece.Goals as goal

pub returns-then-is_empty-clause-pieces : goal.returns-then-is_empty-clause-pieces
returns-then-is_empty-clause-pieces c = no_bytes c.args.text.now (search rules)

pub overflow_add-end : goal.overflow_add-end
overflow_add-end c = omega (arith, end_inside c.args.b c.args.text.now 0 c.end_of-end.result (omega arith) c.end_of-end.ensures)

pub slice_bounds-result-end : goal.slice_bounds-result-end
slice_bounds-result-end c = rw length-take (omega (arith, end_inside c.args.b c.args.text.now 0 c.end_of-end.result (omega arith) c.end_of-end.ensures))

pub returns-clause-pieces : goal.returns-clause-pieces
returns-clause-pieces c = first_cut c.args.b c.args.text.now c.end_of-end.result _ (search rules) (omega arith) c.min-behind.ensures
