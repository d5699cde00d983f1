-- `report_breaking::hold_all` meets its contract. Invariant: the literals whose counts are at the number, and that the trees from the
-- place on have or that fail as they are, are those that all trees have.
use mathlib.Core.Bool.{◌&&◌}
use mathlib.Core.List.{List}
use mathlib.Core.Path.{◌≡◌}
use Prim.Native.Nat.{ℕ, ◌+◌, ◌≤◌}
use lib.Dec.{eqb}
use lib.ListN.{get_or, drop}
use Rattle.model.specs.Limits.{most_literals}
use Rattle.model.specs.Forest.{or}
use Rattle.theory_meaning.specs.Evaluation.{fails_all}
use Rattle.report_breaking.specs.Stacks.{broken, Stacked, bottom, standing}
use Rattle.report_breaking.specs.Stacks.{BlankBut}
use lib.ListN.{length, take}
use Rattle.report_breaking.proofs.hold_all.Given as goal

-- The trees before i have been counted, of which n do not fail as they are; their literals begin at a place.
pub record Reached (ls fs held : List ℕ) (n to i : ℕ) : Type 0 where
  pub left : i ≤ length fs
  pub few : n ≤ i
  pub low : to ≤ length ls
  pub wide : length held ≡ most_literals
  pub stacked : Stacked to (drop i fs)
  pub last : bottom to (drop i fs) ≡ bottom (length ls) fs
  pub count : n + standing (drop i fs) ≡ standing fs
  pub most : (x : ℕ) → get_or held x 0 ≤ n
  pub common : (x : ℕ) → (eqb (get_or held x 0) n && fails_all or (broken x (take to ls) (drop i fs))) ≡ fails_all or (broken x ls fs)
  pub blank : BlankBut (drop to ls) held

abbrev pub invariant-loop-child : goal.invariant-loop-child
invariant-loop-child l = Reached (take l.end l.places) l.children l.held l.count l.to l.child-index
