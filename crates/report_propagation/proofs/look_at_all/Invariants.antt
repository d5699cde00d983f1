-- `report_propagation::look_at_all` meets its contract. Invariant: the parts that begin before the place are exhausted.
use Rattle.theory_forms.specs.Sheets.{Formed}
use Rattle.report_propagation.specs.Trails.{PartEnds, Watching}
use Rattle.report_propagation.proofs.look_at_all.Given as goal

abbrev pub invariant-loop-from : goal.invariant-loop-from
invariant-loop-from l =
    Formed l.sheet × PartEnds l.sheet l.ends × Watching l.sheet l.ends l.from l.seen l.known.failed l.known.trail l.known.count
