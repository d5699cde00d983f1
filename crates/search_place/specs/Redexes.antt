-- What each case of a search's answer is in the definitions, and what a step does.
use Rattle.std.specs.Prelude.{true, List, ◌≡◌, ℕ}
use Rattle.std.specs.Prelude as P
use Rattle.std.proofs.Math.Option.{Option, none, some}
use Rattle.model.specs.Base.{is_some}
use Rattle.model.specs.Results.{stepped}
use Rattle.model.specs.Rules.{step}
use Rattle.model.specs.Sheet.{nodes_in}
use Rattle.model.specs.Strategy.{Redex, redex}
use Rattle.search_place.specs.declared.Spot as S
use Rattle.search_place.specs.declared.Redex as R

-- The child and the inner child, for a rule at a place.
abbrev pub spot_of : ℕ → ℕ → P.Option S.Spot → Option Redex
spot_of rule place (P.Some x) = some (redex rule place x.i x.j)
spot_of rule place P.None = none

abbrev pub next_of : P.Option R.Redex → Option Redex
next_of (P.Some x) = some (redex x.rule x.place x.i x.j)
next_of P.None = none

-- A step applies to the nodes of a sheet; the sheet after it.
abbrev pub Applies : R.Redex → List ℕ → Type 0
Applies x s = is_some (step x.rule x.place x.i x.j (nodes_in s)) ≡ true

abbrev pub stepped_by : R.Redex → List ℕ → List ℕ
stepped_by x s = stepped s x.rule x.place x.i x.j
