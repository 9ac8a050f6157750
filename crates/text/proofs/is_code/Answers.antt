use Rattle.std.proofs.Common.{◌≡◌, length, take, length-take, arith, rules}
use Rattle.text.specs.Text.{ungrouped}
use Rattle.text.proofs.Same.{take_clamped}
use Rattle.text.proofs.Groups.{ten_length, ten_bytes, same_ten}
use Rattle.text.proofs.is_code.Goals as goal

pub as_slice-requires : goal.as_slice-requires
as_slice-requires c = rw c.ungroup.ensures (ten_length (ungrouped c.args.s.now))

pub returns : goal.returns
returns c =
    let a = c.args in
    let u = ungrouped a.s.now in
    let n : length c.args.code ≡ 9 = search rules in
    rw (← same_ten u (take a.n a.code) (rw length-take (omega arith)), ← ten_bytes u, ← c.ungroup.ensures, ← take_clamped a.code a.n 9 n, ← c.min.ensures, ← c.as_slice.ensures)
    c.same_all.ensures
