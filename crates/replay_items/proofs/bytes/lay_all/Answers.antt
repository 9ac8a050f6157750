-- Each of those that fit together is laid down behind the ones before it.
use mathlib.Core.List.{[], ◌++◌}
use native.Mathlib.Nat.{le_trans}
use Rattle.ascii.specs.Ascii.{ascii}
use Rattle.replay_digits.specs.declared.Written.TheVariants.{Hex, HexOrText}
use Rattle.replay_items.specs.Bytes.{has_at, bytes_at, bytes_of, lent_bytes, joined, ends_of}
use Rattle.replay_items.proofs.Laws.{begin, next, whole, less, fitted, lent_in}
use Rattle.replay_items.proofs.Together.{joined_size}
use Rattle.replay_items.proofs.bytes.lay_all.Goals as goal

pub returns : goal.returns
unfolding bytes_of ends_of has_at joined lent_bytes
returns c =
    let line = c.args.line.now in
    let x1 = bytes_at HexOrText (ascii "phone") line in
    let x2 = bytes_at HexOrText (ascii "method") line in
    let x3 = bytes_at Hex (ascii "random") line in
    let x4 = bytes_at HexOrText (ascii "code") line in
    let x5 = bytes_at Hex (ascii "record") line in
    let x6 = bytes_at Hex (ascii "fingerprint") line in
    let x7 = bytes_at HexOrText (ascii "owner") line in
    let x8 = bytes_at Hex (ascii "output") line in
    let f8 = whole (x1 ++ x2 ++ x3 ++ x4 ++ x5 ++ x6 ++ x7 ++ x8) in
    let f7 = less (x1 ++ x2 ++ x3 ++ x4 ++ x5 ++ x6 ++ x7) x8 f8 in
    let f6 = less (x1 ++ x2 ++ x3 ++ x4 ++ x5 ++ x6) x7 f7 in
    let f5 = less (x1 ++ x2 ++ x3 ++ x4 ++ x5) x6 f6 in
    let f4 = less (x1 ++ x2 ++ x3 ++ x4) x5 f5 in
    let f3 = less (x1 ++ x2 ++ x3) x4 f4 in
    let f2 = less (x1 ++ x2) x3 f3 in
    let f1 = less x1 x2 f2 in
    let fits = le_trans (joined_size line) c.requires in
    let b0 = begin c.args.room.now in
    let l1 = fitted fits f1 b0 c.lay-a.ensures in
    let b1 = next b0 l1 in
    let l2 = fitted fits f2 b1 c.lay-b.ensures in
    let b2 = next b1 l2 in
    let l3 = fitted fits f3 b2 c.lay-c.ensures in
    let b3 = next b2 l3 in
    let l4 = fitted fits f4 b3 c.lay-d.ensures in
    let b4 = next b3 l4 in
    let l5 = fitted fits f5 b4 c.lay-e.ensures in
    let b5 = next b4 l5 in
    let l6 = fitted fits f6 b5 c.lay-f.ensures in
    let b6 = next b5 l6 in
    let l7 = fitted fits f7 b6 c.lay-g.ensures in
    let b7 = next b6 l7 in
    let l8 = fitted fits f8 b7 c.lay-h.ensures in
    let b8 = next b7 l8 in
    record {
      has = λ j. record { phone = l1.has j; method = l2.has j; random = l3.has j; code = l4.has j; stored = l5.has j; fingerprint = l6.has j; owner = l7.has j; output = l8.has j };
      ends = λ j. record { phone = b1.end j; method = b2.end j; random = b3.end j; code = b4.end j; stored = b5.end j; fingerprint = b6.end j; owner = b7.end j; output = b8.end j };
      bytes = λ j. record {
        phone = lent_in [] x1 b8 fits f1 b0.end b1.end j;
        method = lent_in x1 x2 b8 fits f2 b1.end b2.end j;
        random = lent_in (x1 ++ x2) x3 b8 fits f3 b2.end b3.end j;
        code = lent_in (x1 ++ x2 ++ x3) x4 b8 fits f4 b3.end b4.end j;
        stored = lent_in (x1 ++ x2 ++ x3 ++ x4) x5 b8 fits f5 b4.end b5.end j;
        fingerprint = lent_in (x1 ++ x2 ++ x3 ++ x4 ++ x5) x6 b8 fits f6 b5.end b6.end j;
        owner = lent_in (x1 ++ x2 ++ x3 ++ x4 ++ x5 ++ x6) x7 b8 fits f7 b6.end b7.end j;
        output = lent_in (x1 ++ x2 ++ x3 ++ x4 ++ x5 ++ x6 ++ x7) x8 b8 fits f8 b7.end b8.end j;
      };
      memory = b8.memory;
    }
