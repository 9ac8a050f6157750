-- By the kind of line that the number is of, and what is made of it.
use Rattle.std.proofs.Common.{◌-◌}
use Rattle.replay_calls.specs.Calls.{plain_query, long_query}
use Rattle.replay_calls.proofs.Laws.{asking_plain, asking_long, asking_rest}
use Rattle.replay_items.specs.Bytes.{lent_bytes}
use Rattle.replay_steps.proofs.Laws.{laid_ask, ask_fits, plain_shown, plain_in}
use Rattle.replay_given.specs.Turns.{ran}
use Rattle.replay_steps.proofs.run_asking.Goals as goal

pub returns-then-name-lt-PLAIN_QUERIES : goal.returns-then-name-lt-PLAIN_QUERIES
unfolding ran
returns-then-name-lt-PLAIN_QUERIES c =
    let a = c.args in
    let q = plain_query a.name a.i (lent_bytes a.p a.room.now) in
    let f = c.plain_query-a in
    let k = c.put_calm.ensures in
    rw (asking_plain a.i (lent_bytes a.p a.room.now) a.name c.if-name-lt-PLAIN_QUERIES.true)
    (rw (laid_ask a.h, ← plain_shown a.h.gate q f.result f.ensures, ← c.put_answer-k.ensures) k.0, ask_fits a.h q (plain_in a.h.gate q f.result f.ensures _ f.type_inv) k.1)

pub returns-then-long-lt-LONG_QUERIES : goal.returns-then-long-lt-LONG_QUERIES
unfolding ran
returns-then-long-lt-LONG_QUERIES c =
    let a = c.args in
    let l = c.put_long-k.ensures in
    let k = c.put_calm-then-long-lt-LONG_QUERIES.ensures in
    rw (asking_long a.i (lent_bytes a.p a.room.now) a.name c.if-name-lt-PLAIN_QUERIES.false c.if-long-lt-LONG_QUERIES.true) (rw (laid_ask a.h, ← l.0) k.0, ask_fits a.h (long_query (a.name - 17) a.i (lent_bytes a.p a.room.now)) l.1 k.1)

pub run_rest-requires : goal.run_rest-requires
run_rest-requires c = c.requires

pub returns : goal.returns
returns c = let a = c.args in rw (asking_rest a.i (lent_bytes a.p a.room.now) a.name c.if-name-lt-PLAIN_QUERIES.false c.if-long-lt-LONG_QUERIES.false) c.run_rest.ensures
