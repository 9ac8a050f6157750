use Rattle.std.proofs.Common.{◌+◌, length, arith, lt-ltb, le-ltb}
use Rattle.hexadecimal.specs.Hex.{hex_of}
use Rattle.hexadecimal.proofs.Laws.{hex_length}
use Rattle.replay_page.specs.Page.{text}
use Rattle.replay_page.proofs.put_bytes.Goals as goal

pub returns-then-out-at-2 : goal.returns-then-out-at-2
unfolding text
returns-then-out-at-2 c =
    let a = c.args in
    let h = hex_length a.src.now in
    rw (le-ltb (length a.out.now) a.at (omega arith), lt-ltb (length a.out.now) (a.at + length (hex_of a.src.now)) (omega arith))

pub returns : goal.returns
unfolding text
returns c =
    let a = c.args in
    let h = hex_length a.src.now in
    rw (c.put_hex.ensures, le-ltb (length a.out.now) a.at (omega arith), le-ltb (length a.out.now) (a.at + length (hex_of a.src.now)) (omega arith), h)
