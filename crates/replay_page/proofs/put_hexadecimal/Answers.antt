use Rattle.std.proofs.Common.{◌-◌, arith, sym, ◌∙◌}
use Rattle.replay_page.specs.Page.{page, hexadecimal}
use Rattle.replay_page.proofs.Laws.{mod_twice, digits_down, unit_fits, unit_some, digits_on, digits_end}
use Rattle.replay_page.proofs.put_hexadecimal.Goals as goal

pub pow-requires : goal.pow-requires
pow-requires c = unit_fits (c.loop-i.i - 1) (omega arith)

pub put_digit-k-requires : goal.put_digit-k-requires
put_digit-k-requires c = rw c.pow.ensures (unit_some (c.loop-i.i - 1))

pub loop-i-preserved : goal.loop-i-preserved
loop-i-preserved c =
    let l = c.loop-i in
    let put = c.put_digit-k in
    (omega arith, sym (digits_on c.args.n (l.i - 1) (page l.out l.k) (page put.new.out put.result) (omega arith) (rw (← c.pow.ensures) put.ensures)) ∙ l.invariant.1)

pub returns : goal.returns
unfolding hexadecimal digits_down
returns c =
    let l = c.loop-i in
    rw (c.put_text.ensures, c.hex_digit-d.ensures, mod_twice, ← digits_end c.args.n (l.i - 1) (page l.out l.k) (omega arith), l.invariant.1)
