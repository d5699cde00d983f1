-- Nodes without a constant among their children, and bounds of the others set back.
use Rattle.std.specs.Prelude.{List, ◌⊎◌, ◌≡◌, ℕ, ◌≤◌, ◌<◌, get_or, drop}
use Rattle.model.specs.Forest.{kids}
use Rattle.model.specs.Code.{Node, decode}
use Rattle.locality.specs.Assigned.{NoConstant}

-- No child of the node at a place is a constant.
abbrev pub ConstantFree : ℕ → List Node → Type 0
ConstantFree q ns = NoConstant (kids (decode (drop q ns)))

-- Of the bounds from one place up to another each is 1, or has stayed where no child of its node is a constant; the others have stayed.
pub record SetBack (from to : ℕ) (ns : List Node) (t u : List ℕ) : Type 0 where
  pub outside : (q : ℕ) → (q < from) ⊎ (to ≤ q) → get_or u q 0 ≡ get_or t q 0
  pub inside : (q : ℕ) → from ≤ q → q < to → (get_or u q 0 ≡ 1) ⊎ ((get_or u q 0 ≡ get_or t q 0) × ConstantFree q ns)
