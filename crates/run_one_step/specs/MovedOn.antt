-- The sheet and its two tables after a step, before the bounds that it set back rise again.
use Rattle.std.specs.Prelude.{List, ◌⊎◌, ℕ, ◌+◌, ◌≤◌, ◌<◌, get_or}
use Rattle.model.specs.Sheet.{used_in}
use Rattle.run_bounds.specs.BoundTables.{High, Tabled}
use Rattle.run_one_step.specs.declared.Reach.{Reach}

-- The bounds that were set back lie in the reach: outside it all have come to the step's rule, before it all are past it.
pub record MovedOn (rule : ℕ) (r : Reach) (s sizes low : List ℕ) : Type 0 where
  pub tables : Tabled s sizes low
  pub ones : High 1 0 (used_in s) low
  pub order : r.from ≤ r.to
  pub ahead : High (rule + 1) 0 r.from low
  pub outside : (q : ℕ) → q < used_in s → (q < r.from) ⊎ (r.to ≤ q) → rule ≤ get_or low q 0
