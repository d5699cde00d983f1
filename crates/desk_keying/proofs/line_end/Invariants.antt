-- `desk_keying::line_end` meets its contract. Invariant: no byte passed is a line end.
use mathlib.Core.Path.{◌≡◌}
use Prim.Native.Nat.{◌+◌}
use lib.ListN.{drop}
use Rattle.desk_keying.specs.Endings.{ending}
use Rattle.desk_keying.proofs.line_end.Given as goal

abbrev pub invariant-loop-i : goal.invariant-loop-i
invariant-loop-i l = ending l.s ≡ l.i + ending (drop l.i l.s)
