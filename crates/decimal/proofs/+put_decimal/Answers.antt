-- One digit alone, or the last one behind the digits of a tenth.
use Rattle.std.proofs.Common.{◌≡◌, ◌+◌, ◌/◌, ◌%◌, arith}
use Rattle.decimal.specs.Decimal.{decimal_of}
use Rattle.decimal.proofs.Laws.{decimal_small, decimal_large, small_length, large_length, put_one, put_push}
use Rattle.decimal.proofs.+put_decimal.Goals as goal
use Rattle.decimal.proofs.+put_decimal.Goals.{then-n-lt10, else-n-lt10}

pub put_decimal-end-requires : goal.put_decimal-end-requires
put_decimal-end-requires t c = (omega arith, omega (arith, large_length c.args.n (omega arith)))

pub bounds-dst-end : goal.bounds-dst-end
bounds-dst-end t c =
    elim c.if-n-lt10.branch [
      | then-n-lt10 w ↦ rw (w.dst-is, w.end-is) (omega (arith, small_length c.args.n w.if-n-lt10.true))
      | else-n-lt10 w ↦ rw (w.dst-is, w.end-is) (omega (arith, w.put_decimal-end.auto.dst, w.put_decimal-end.ensures.0, large_length c.args.n w.if-n-lt10.false))
    ]

pub overflow_add-result : goal.overflow_add-result
overflow_add-result t c =
    elim c.if-n-lt10.branch [
      | then-n-lt10 w ↦ rw w.end-is (omega (arith, small_length c.args.n w.if-n-lt10.true))
      | else-n-lt10 w ↦ rw w.end-is (omega (arith, w.put_decimal-end.ensures.0, large_length c.args.n w.if-n-lt10.false))
    ]

pub returns : goal.returns
returns t c =
    let a = c.args in
    elim c.if-n-lt10.branch [
      | then-n-lt10 w ↦
          let small = w.if-n-lt10.true in
          let m : a.n % 10 ≡ a.n = omega arith in (
            rw (w.end-is, small_length a.n small),
            rw (w.dst-is, w.end-is, m, decimal_small a.n small) (put_one a.dst.now a.at (48 + a.n) (omega (arith, small_length a.n small))),
          )
      | else-n-lt10 w ↦
          let big = w.if-n-lt10.false in
          let q = w.put_decimal-end.ensures in (
            omega (arith, w.end-is, q.0, large_length a.n big),
            rw (w.dst-is, w.end-is, q.0, q.1, decimal_large a.n big)
                (put_push a.dst.now a.at (decimal_of (a.n / 10)) (48 + a.n % 10) (omega (arith, large_length a.n big))),
          )
    ]
