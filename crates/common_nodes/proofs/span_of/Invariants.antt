-- `common_nodes::span_of` meets its contract. Invariant: the trees end where those pending end, read from the present place on.
use Prim.Native.Nat.{◌+◌, ◌*◌, ◌≤◌}
use mathlib.Core.Path.{◌≡◌}
use lib.ListN.{drop}
use Rattle.model.specs.Limits.{kind_factor, sheet_room}
use Rattle.theory_reading.specs.Spans.{span}
use Rattle.common_nodes.proofs.span_of.Given as goal

abbrev pub invariant-loop-i : goal.invariant-loop-i
invariant-loop-i l = (l.pending ≤ sheet_room + kind_factor * l.i) × (span l.trees l.s ≡ l.i + span l.pending (drop l.i l.s))
