-- What a choice, a step and a run leave of a sheet, before any test of the calls.
use Rattle.std.specs.Prelude.{List, ℕ}
use Rattle.model.specs.Base.{maybe}
use Rattle.model.specs.Literal.{Literal}
use Rattle.model.specs.Rules.{step}
use Rattle.model.specs.Strategy.{run}
use Rattle.model.specs.Sheet.{options_in, nodes_in, sheet_of, chosen}

-- "A choice appends one mark, plain or barred, as the root's last child."
unfoldable pub appended : List ℕ → Literal → List ℕ
appended s l = sheet_of (options_in s) (chosen l (nodes_in s))

-- "A rule rewrites the stretch of the sheet from its place onward; the used count and trailing zeros follow." The sheet as it was
-- where the step does not apply.
unfoldable pub stepped : List ℕ → ℕ → ℕ → ℕ → ℕ → List ℕ
stepped s rule place i j =
    sheet_of (options_in s) (maybe (nodes_in s) (λ ns. ns) (step rule place i j (nodes_in s)))

-- The sheet after a run.
unfoldable pub run_through : List ℕ → ℕ → List ℕ
run_through s budget = sheet_of (options_in s) (run budget (nodes_in s)).nodes
