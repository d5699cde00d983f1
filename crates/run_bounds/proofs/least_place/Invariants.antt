-- `run_bounds::least_place` meets its contract. Invariant: before the place that the search has come to the rule applies nowhere, and all bounds there are past it.
use Prim.Native.Nat.{◌-◌}
use Rattle.run_bounds.specs.BoundTables.{ComeTo}
use Rattle.run_bounds.proofs.least_place.Given as goal

abbrev pub invariant-loop-place : goal.invariant-loop-place
invariant-loop-place l = ComeTo l.rule l.from l.sheet l.sizes l.low

abbrev pub decreases-loop-place : goal.decreases-loop-place
decreases-loop-place l = l.used - l.from
