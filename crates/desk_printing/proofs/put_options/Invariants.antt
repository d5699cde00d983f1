-- `desk_printing::put_options` meets its contract. Invariant: the lines of the options passed stand at the start.
use mathlib.Core.Path.{◌≡◌}
use Prim.Native.Nat.{◌*◌, ◌≤◌}
use lib.ListN.{length, take}
use Rattle.model.specs.Book.{pieces}
use Rattle.calls.specs.Desk.{option_lines}
use Rattle.common_decimal.specs.Placed.{after, filled}
use Rattle.desk_printing.proofs.put_options.Given as goal

abbrev pub invariant-loop-i : goal.invariant-loop-i
invariant-loop-i l =
    (l.at ≤ 19 * l.i)
    × (length l.out ≡ length l.initial.out)
    × (after l.at l.out ≡ filled (option_lines (pieces 13 l.i l.codes) (take l.i l.marks)) l.initial.out)
