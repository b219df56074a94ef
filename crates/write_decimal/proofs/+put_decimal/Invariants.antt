use Rattle.write_decimal.proofs.+put_decimal.Given as goal

-- The measure is the number, which each call makes smaller.
abbrev pub decreases-put_decimal : goal.decreases-put_decimal
decreases-put_decimal l = l.n
