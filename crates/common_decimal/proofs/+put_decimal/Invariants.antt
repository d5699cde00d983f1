-- `common_decimal::put_decimal` meets its contract: a number below ten is its digit, another the digits of a tenth of it and the last. The
-- measure is the number.
use Rattle.common_decimal.proofs.+put_decimal.Given as goal

abbrev pub decreases-put_decimal : goal.decreases-put_decimal
decreases-put_decimal l = l.n
