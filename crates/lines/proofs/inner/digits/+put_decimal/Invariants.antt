-- A digit alone, or the digits before the last one and then that one. The number falls.
use Rattle.lines.proofs.inner.digits.+put_decimal.Given as goal

abbrev pub decreases-put_decimal : goal.decreases-put_decimal
decreases-put_decimal l = l.n
