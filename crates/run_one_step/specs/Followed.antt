-- The bounds after a step, as a run by bounds needs them.
use Rattle.std.specs.Prelude.{List, ◌⊎◌, ◌≡◌, ℕ, ◌≤◌, ◌<◌, get_or}
use Rattle.model.specs.Code.{Node}
use Rattle.run_bounds_after.specs.declared.Plan.{Plan}
use Rattle.run_bounds_after.specs.Renewed.{Moved}
use Rattle.run_bounds_after.specs.SetBack.{ConstantFree}

-- The bound of a place after the step's own has stayed: the rule is 9 or 10, and no child of the node there is a constant.
pub record Spared (rule place q : ℕ) (ms : List Node) (t u : List ℕ) : Type 0 where
  pub nine : 9 ≤ rule
  pub ten : rule ≤ 10
  pub later : place < q
  pub free : ConstantFree q ms
  pub same : get_or u q 0 ≡ get_or t q 0

-- The bounds have moved with their nodes, and those of the zone are 1 or spared.
pub record Followed (rule : ℕ) (p : Plan) (ms : List Node) (t u : List ℕ) : Type 0 where
  pub moved : Moved p t u
  pub zone : (q : ℕ) → p.zone.from ≤ q → q < p.zone.new → (get_or u q 0 ≡ 1) ⊎ Spared rule p.place q ms t u
