-- `run_bounds::raise_all` meets its contract. Invariant: the bounds before the start have come to the floor.
use Prim.Native.Nat.{◌-◌, ◌≤◌}
use Rattle.run_bounds.specs.BoundTables.{High, Raised}
use Rattle.run_bounds.proofs.raise_all.Given as goal

abbrev pub invariant-loop-place : goal.invariant-loop-place
invariant-loop-place l =
    ((1 ≤ l.floor) × (l.floor ≤ l.limit))
    × ((l.from ≤ l.start) × (l.start ≤ l.to))
    × High l.floor l.from l.start l.low
    × Raised l.sheet l.sizes l.initial.low l.low

abbrev pub decreases-loop-place : goal.decreases-loop-place
decreases-loop-place l = l.to - l.start
