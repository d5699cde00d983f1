-- `import_numbers::is_number` meets its contract. Invariant: the number is the one spelled exactly if what is left of it is what the
-- digits that are left spell.
use mathlib.Core.Path.{◌≡◌}
use Prim.Native.Nat.{◌≤◌}
use lib.Dec.{eqb}
use lib.ListN.{length, take}
use Rattle.texts.specs.Decimals.{number_in}
use Rattle.import_numbers.proofs.is_number.Given as goal

abbrev pub invariant-loop-i : goal.invariant-loop-i
invariant-loop-i l = (l.i ≤ length l.a) × (eqb l.n (number_in l.a) ≡ eqb l.left (number_in (take l.i l.a)))
