use Rattle.std.proofs.Common.{◌∙◌, take, drop, length-take, length-drop, arith}
use Rattle.frame_lines.proofs.Numbers.{no_data}
use Rattle.frame_lines.proofs.data_at.Goals as goal

pub returns-in_err-get : goal.returns-in_err-get
returns-in_err-get c =
    let s = c.args.s.now in
    let h = c.in_err-get.ensures.lookup in
    c.from_residual.ensures ∙ no_data (take 16 (drop 5 s)) (λ e. omega (arith, length-drop 5 s, length-take 16 (drop 5 s)))
