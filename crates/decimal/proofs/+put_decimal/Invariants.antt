use Rattle.decimal.proofs.+put_decimal.Given as goal

-- The number falls at each call of itself.
abbrev pub decreases-put_decimal : goal.decreases-put_decimal
decreases-put_decimal l = l.n
