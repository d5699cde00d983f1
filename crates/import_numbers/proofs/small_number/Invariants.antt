-- `import_numbers::small_number` meets its contract. Invariant: the number is what the first i digits spell.
use mathlib.Core.Path.{◌≡◌}
use lib.ListN.{take}
use Rattle.texts.specs.Decimals.{number_in}
use Rattle.import_numbers.proofs.small_number.Given as goal

abbrev pub invariant-loop-digit : goal.invariant-loop-digit
invariant-loop-digit l = l.n ≡ number_in (take l.digit-index l.a)
