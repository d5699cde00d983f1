-- `sheet_check::is_clear` meets its contract. Invariant: what was read and what is left of the numbers decide.
use mathlib.Core.Bool.{◌&&◌}
use mathlib.Core.Path.{◌≡◌}
use lib.Dec.{eqb}
use lib.ListN.{drop}
use Rattle.model.specs.Base.{all}
use Rattle.sheet_check.proofs.is_clear.Given as goal

abbrev pub invariant-loop-x : goal.invariant-loop-x
invariant-loop-x l = all (eqb 0) l.s ≡ (l.clear && all (eqb 0) (drop l.x-index l.s))
