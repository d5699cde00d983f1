-- `report_propagation::look_inside` meets its contract. Invariant: of the literals that break the part, those passed are known.
use Rattle.report_propagation.proofs.Looking.{BreaksKnown}
use Rattle.report_propagation.proofs.look_inside.Given as goal

abbrev pub invariant-loop-place : goal.invariant-loop-place
invariant-loop-place l =
    let part = l.fn.part in
    BreaksKnown l.sheet part.from part.to l.initial.known.failed l.initial.known.trail l.initial.known.count l.place-items l.n
    l.known.failed l.known.trail l.known.count l.place-index
