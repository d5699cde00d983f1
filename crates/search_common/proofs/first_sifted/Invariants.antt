-- `search_common::first_sifted` meets its contract. Invariant: inner child j begins at the present place, and the rule applies with none
-- before it.
use mathlib.Core.Bool.{false}
use mathlib.Core.Path.{◌≡◌}
use Prim.Native.Nat.{◌+◌}
use Rattle.model.specs.Base.{is_some}
use Rattle.model.specs.Rules.{rewrite}
use Rattle.theory_reading.specs.Stretches.{forest_in}
use Rattle.search_sizes.specs.TreeHops.{Passed}
use Rattle.search_common.proofs.first_sifted.Given as goal

abbrev pub invariant-loop-j : goal.invariant-loop-j
invariant-loop-j l = Passed (λ k. is_some (rewrite 14 l.i k (forest_in l.part)) ≡ false) (1 + l.i + 1) l.part l.j l.from
