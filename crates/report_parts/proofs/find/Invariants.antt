-- `report_parts::find` meets its contract. Invariant: the parts before i are found.
use mathlib.Core.Path.{◌≡◌}
use Prim.Native.Nat.{◌+◌, ◌-◌}
use Rattle.model.specs.Sheet.{used_in}
use Rattle.theory_forms.specs.Sheets.{Formed}
use Rattle.report_parts.proofs.Finding.{Finding}
use Rattle.report_parts.proofs.find.Given as goal

abbrev pub invariant-loop-i : goal.invariant-loop-i
invariant-loop-i l = (l.end ≡ 2 + used_in l.sheet) × Formed l.sheet × Finding l.sheet l.ends l.homes l.i

abbrev pub decreases-loop-i : goal.decreases-loop-i
decreases-loop-i l = l.end - l.i
