-- `search_common::first_tried` meets its contract. Invariant: the rule applies with no inner child before j.
use mathlib.Core.Bool.{false}
use mathlib.Core.Path.{◌≡◌}
use Prim.Native.Nat.{ℕ, ◌<◌}
use Rattle.model.specs.Base.{is_some}
use Rattle.model.specs.Rules.{rewrite}
use Rattle.theory_reading.specs.Stretches.{forest_in}
use Rattle.search_common.proofs.first_tried.Given as goal

abbrev pub invariant-loop-j : goal.invariant-loop-j
invariant-loop-j l = (k : ℕ) → k < l.j → is_some (rewrite 14 l.i k (forest_in l.part)) ≡ false
