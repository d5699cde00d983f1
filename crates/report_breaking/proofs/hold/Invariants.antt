-- `report_breaking::hold` meets its contract. Invariant: the literals from the place on raise the counts to what all of them make of
-- the first counts.
use mathlib.Core.List.{List}
use mathlib.Core.Path.{◌≡◌}
use Prim.Native.Nat.{ℕ, ◌≤◌}
use lib.ListN.{drop}
use Rattle.report_breaking.specs.Stacks.{raised}
use lib.ListN.{length}
use Rattle.report_breaking.proofs.hold.Given as goal

-- The literals before i have been counted.
pub record Raising (list first : List ℕ) (n : ℕ) (held : List ℕ) (i : ℕ) : Type 0 where
  pub left : i ≤ length list
  pub wide : length held ≡ length first
  pub same : (x : ℕ) → raised n list first x ≡ raised n (drop i list) held x

abbrev pub invariant-loop-x : goal.invariant-loop-x
invariant-loop-x l = Raising l.list l.initial.held l.count l.held l.x-index
