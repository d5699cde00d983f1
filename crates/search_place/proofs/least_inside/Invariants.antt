-- `search_place::least_inside` meets its contract. Invariant: child i begins at the present place, and no child before it gives a step.
use mathlib.Core.Option.{none}
use mathlib.Core.Path.{◌≡◌}
use Prim.Native.Nat.{ℕ}
use Rattle.model.specs.Strategy.{least_j}
use Rattle.theory_reading.specs.Stretches.{forest_in}
use Rattle.search_sizes.specs.TreeHops.{Passed}
use Rattle.search_place.proofs.least_inside.Given as goal

abbrev pub invariant-loop-i : goal.invariant-loop-i
invariant-loop-i l = Passed (λ q. (p : ℕ) → none ≡ least_j l.rule p q (forest_in l.part)) 1 l.part l.i l.at
