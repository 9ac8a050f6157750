-- The invariant: the digits from the index on behind v make the number.
use Rattle.std.proofs.Common.{◌≡◌, drop}
use Rattle.replay_digits.specs.Digits.{number_in, number_from}
use Rattle.replay_digits.proofs.number_in.Given as goal

abbrev pub invariant-loop-b : goal.invariant-loop-b
invariant-loop-b l = number_in l.base l.most l.s ≡ number_from l.base l.most l.v (drop l.b-index l.s)
