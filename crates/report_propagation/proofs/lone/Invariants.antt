-- `report_propagation::lone` meets its contract. Invariant: the numbers passed are literals, and those of them that do not fail have one
-- place in the table.
use mathlib.Core.Path.{◌≡◌}
use Prim.Native.Nat.{◌+◌}
use lib.ListN.{length}
use Rattle.model.specs.Limits.{most_literals}
use Rattle.theory_forms.specs.Sheets.{Formed}
use Rattle.report_parts.specs.Parts.{Part}
use Rattle.report_propagation.proofs.LoneLiterals.{Scanned}
use Rattle.report_propagation.proofs.lone.Given as goal

abbrev pub invariant-loop-x : goal.invariant-loop-x
invariant-loop-x l =
    let part = l.fn.part in
    Formed l.sheet × Part l.sheet part.from part.to × (length l.failed ≡ most_literals)
    × Scanned l.sheet l.failed part.from part.to l.begin l.only (l.begin + l.x-index)
