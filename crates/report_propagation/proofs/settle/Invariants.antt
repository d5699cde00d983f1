-- `report_propagation::settle` meets its contract. Invariant: the literals of the trail were followed so far. Each turn of the loop goes
-- down a chain or begins the next literal's, and the trail never has more literals than there are.
use Prim.Native.Nat.{◌+◌, ◌*◌, ◌-◌, ◌≤◌}
use Rattle.model.specs.Limits.{most_literals}
use Rattle.theory_forms.specs.Sheets.{Formed}
use Rattle.report_parts.specs.Parts.{Parted, Linked}
use Rattle.report_propagation.proofs.Following.{Following}
use Rattle.report_propagation.proofs.settle.Given as goal

abbrev pub invariant-loop-n : goal.invariant-loop-n
invariant-loop-n l =
    Formed l.sheet × Parted l.sheet l.ends l.homes × Linked l.sheet l.links × (l.small ≤ l.known.count)
    × Following l.sheet l.ends l.seen l.known.failed l.known.trail l.known.count l.large l.turn

abbrev pub decreases-loop-n : goal.decreases-loop-n
decreases-loop-n l = 8192 * (2 * most_literals - (l.small + l.large)) + l.turn.place
