use Rattle.std.proofs.Common.{ap}
use Rattle.definition.specs.Gate.{Given}
use Rattle.bench_calls.specs.Rounds.{heard}
use Rattle.bench_calls.proofs.encoded.Goals as goal

pub returns : goal.returns
returns c =
    let a = c.args in
    rw (c.add.ensures, c.record_byte.ensures)
    (ap (λ (x : Given). heard a.r.sum x a.i) c.encode_phone_validations-a.ensures)
