-- `report_breaking::keep` meets its contract. Invariant: what is kept, and what is left of which the counts are at the number, are
-- together what is to be kept; only what is left has counts.
use mathlib.Core.Bool.{◌&&◌, ◌||◌}
use mathlib.Core.List.{List}
use mathlib.Core.Path.{◌≡◌}
use Prim.Native.Nat.{ℕ, ◌≤◌}
use lib.Dec.{eqb}
use lib.ListN.{get_or, take, drop}
use Rattle.report_breaking.specs.Stacks.{among, InTable, BlankBut}
use lib.ListN.{length}
use Rattle.report_breaking.proofs.keep.Given as goal

-- The literals before i have been looked at.
pub record Keeping (list₀ held₀ : List ℕ) (n : ℕ) (list held : List ℕ) (kept i : ℕ) : Type 0 where
  pub left : i ≤ length list
  pub low : kept ≤ i
  pub long : length list ≡ length list₀
  pub wide : length held ≡ length held₀
  pub inside : InTable (drop i list)
  pub found : (x : ℕ) →
      (among x (take kept list) || (among x (drop i list) && eqb (get_or held x 0) n)) ≡ (among x list₀ && eqb (get_or held₀ x 0) n)
  pub blank : BlankBut (drop i list) held

abbrev pub invariant-loop-i : goal.invariant-loop-i
invariant-loop-i l = Keeping l.initial.list l.initial.held l.count l.list l.held l.kept l.i
