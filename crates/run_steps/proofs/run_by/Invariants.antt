-- `run_steps::run_by` meets its contract. Invariant: the sheet is what so many steps of the strategy leave of the sheet that was lent,
-- and the search by its tables has come to the floor and the cursor.
use Rattle.theory_rewriting.specs.Reached.{Reached}
use Rattle.run_bounds.specs.BoundTables.{ComeTo}
use Rattle.run_steps.proofs.run_by.Given as goal

abbrev pub invariant-loop-count : goal.invariant-loop-count
invariant-loop-count l =
    Reached l.initial.sheet l.count l.sheet × ComeTo l.ahead.floor l.ahead.cursor l.sheet l.sizes l.low
