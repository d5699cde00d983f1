-- `import_numbers::is_decimal` meets its contract: by the number of digits, and the first.
use native.Mathlib.Omega.{arith}
use Rattle.import_numbers.proofs.DigitByDigit.{no_digit, one_digit, more_digits}
use Rattle.import_numbers.proofs.is_decimal.Goals as goal

pub returns-in-empty : goal.returns-in-empty
returns-in-empty c = no_digit c.args.a.now (omega (arith, c.in-empty.len_below))

pub returns-in-len1 : goal.returns-in-len1
returns-in-len1 c = one_digit c.args.a.now c.requires (omega (arith, c.in-len1.len_at_least, c.in-len1.len_below))

pub returns-in-len1-up : goal.returns-in-len1-up
returns-in-len1-up c =
    more_digits c.args.a.now c.requires (λ e. omega (arith, e)) (λ e. omega (arith, e))
