use Rattle.std.proofs.Common.{◌≡◌, ◌*◌, length, ◌∙◌, arith}
use Rattle.std.proofs.Math.ListN.{length-set}
use Rattle.std.proofs.Math.Seq.{take-length}
use Rattle.arrays.specs.Arrays.{put}
use Rattle.hexadecimal.specs.Hex.{hex_of}
use Rattle.hexadecimal.proofs.Laws.{hex_length, hex_turn}
use Rattle.hexadecimal.proofs.put_hex.Goals as goal

pub loop-i-preserved : goal.loop-i-preserved
loop-i-preserved c =
    let a = c.args in
    let l = c.loop-i in (
      simp length-set (omega arith),
      rw (l.invariant.1, c.hex_digit-in-loop-i.ensures, c.hex_digit.ensures)
          (hex_turn a.dst.now a.at a.src.now l.i (omega arith) (omega arith) (omega (arith, c.type_inv.src l.i))),
    )

pub returns : goal.returns
unfolding put
returns c =
    let a = c.args in
    let h = hex_of a.src.now in
    let e : 2 * c.loop-i.i ≡ length h = omega (arith, hex_length a.src.now) in
    c.loop-i.invariant.1 ∙ rw (e, take-length h)
