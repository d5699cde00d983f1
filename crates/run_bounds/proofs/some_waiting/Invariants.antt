-- `run_bounds::some_waiting` meets its contract. Invariant: where none was met, the bounds before the present place are past the rule.
use mathlib.Core.Bool.{false}
use mathlib.Core.Path.{◌≡◌}
use Prim.Native.Nat.{◌+◌}
use Rattle.run_bounds.specs.BoundTables.{High}
use Rattle.run_bounds.proofs.some_waiting.Given as goal

abbrev pub invariant-loop-k : goal.invariant-loop-k
invariant-loop-k l = l.some ≡ false → High (l.rule + 1) l.from (l.from + l.k) l.low
