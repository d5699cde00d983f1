-- `run_bounds_after::set_back` meets its contract. Invariant: the bounds before the present place are set back, and the others have stayed.
use Rattle.model.specs.Sheet.{nodes_in}
use Rattle.run_bounds_after.specs.SetBack.{SetBack}
use Rattle.run_bounds_after.proofs.set_back.Given as goal

abbrev pub invariant-loop-place : goal.invariant-loop-place
invariant-loop-place l =
    SetBack l.from l.place (nodes_in l.sheet) l.initial.low l.low
