-- `report_parts::link` meets its contract. Invariant: the literals before i are linked.
use mathlib.Core.Path.{◌≡◌}
use Prim.Native.Nat.{◌+◌}
use Rattle.model.specs.Sheet.{used_in}
use Rattle.theory_forms.specs.Sheets.{Formed}
use Rattle.report_parts.proofs.Linking.{Linking}
use Rattle.report_parts.proofs.link.Given as goal

abbrev pub invariant-loop-i : goal.invariant-loop-i
invariant-loop-i l = (l.end ≡ 2 + used_in l.sheet) × Formed l.sheet × Linking l.sheet l.links l.i
