-- `run_bounds::first_waiting` meets its contract. Invariant: the bounds before the present place are past the rule.
use Prim.Native.Nat.{◌+◌}
use Rattle.run_bounds.specs.BoundTables.{High}
use Rattle.run_bounds.proofs.first_waiting.Given as goal

abbrev pub invariant-loop-place : goal.invariant-loop-place
invariant-loop-place l = High (l.rule + 1) l.from l.place l.low
