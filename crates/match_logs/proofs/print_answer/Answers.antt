use Rattle.std.proofs.Common.{arith, sym}
use lib.Seq.{length-take-le}
use Rattle.frame_lines.proofs.Pages.{laid_inside}
use Rattle.match_logs.proofs.print_answer.Goals as goal

pub slice_bounds-out-end : goal.slice_bounds-out-end
slice_bounds-out-end g c = let p = c.put_answer-n in let l = laid_inside _ _ _ p.ensures.1 in omega (arith, p.ensures.1.room)

pub slice_bounds-write_all-end : goal.slice_bounds-write_all-end
slice_bounds-write_all-end g c = let p = c.put_answer-n in let l = laid_inside _ _ _ p.ensures.1 in sym (length-take-le p.result p.new.out (omega (arith, p.ensures.1.room)))
