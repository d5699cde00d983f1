-- `run_bounds::least_rule` meets its contract: the place has a literal, or the rules for its kind are tried. Invariant: no rule from the
-- start on, below the present one, applies at the place.
use mathlib.Core.Option.{none}
use mathlib.Core.Path.{◌≡◌}
use Prim.Native.Nat.{ℕ, ◌≤◌, ◌<◌}
use lib.ListN.{drop}
use Rattle.model.specs.Code.{decode}
use Rattle.model.specs.Sheet.{nodes_in}
use Rattle.model.specs.Strategy.{least_i}
use Rattle.run_bounds.proofs.least_rule.Given as goal

abbrev pub invariant-loop-rule : goal.invariant-loop-rule
invariant-loop-rule l = (s : ℕ) → l.start ≤ s → s < l.rule → none ≡ least_i s l.place (decode (drop l.place (nodes_in l.sheet)))
