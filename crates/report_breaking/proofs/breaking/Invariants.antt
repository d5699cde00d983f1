-- `report_breaking::breaking` meets its contract. Invariant: the stack says of each tree that the numbers from the place on spell, and
-- of each literal, whether the tree fails where the literal is tried.
use mathlib.Core.List.{List}
use mathlib.Core.Path.{◌≡◌}
use Prim.Native.Nat.{ℕ, ◌+◌, ◌≤◌}
use lib.ListN.{length, take, drop}
use Rattle.model.specs.Limits.{sheet_room}
use Rattle.theory_meaning.specs.TreeValues.{values_of}
use Rattle.report_breaking.specs.Stacks.{broken, tried, Blank, Stack}
use Rattle.report_breaking.proofs.breaking.Given as goal

-- The numbers from i on have been read.
pub record Read (tree t places stack held : List ℕ) (top end i : ℕ) : Type 0 where
  pub left : end + i ≤ length tree
  pub wide : length places ≡ sheet_room
  pub deep : length stack ≡ sheet_room
  pub blank : Blank held
  pub sound : Stack places stack top end
  pub told : (q : ℕ) → broken q (take end places) (drop top stack) ≡ values_of (tried t q) (drop i tree)

abbrev pub invariant-loop-i : goal.invariant-loop-i
invariant-loop-i l = Read l.tree l.failed l.places l.stack l.held l.top l.end l.i
