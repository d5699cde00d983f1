-- `search_place::least_lifted` meets its contract. Invariant: inner child j begins at the present place, and none before it is a literal.
use mathlib.Core.Bool.{false}
use mathlib.Core.Path.{◌≡◌}
use Prim.Native.Nat.{◌+◌}
use Rattle.model.specs.Base.{is_some}
use Rattle.model.specs.Rules.{rewrite}
use Rattle.theory_reading.specs.Stretches.{forest_in}
use Rattle.search_sizes.specs.TreeHops.{Passed}
use Rattle.search_place.proofs.least_lifted.Given as goal

abbrev pub invariant-loop-j : goal.invariant-loop-j
invariant-loop-j l = Passed (λ k. is_some (rewrite l.rule l.i k (forest_in l.part)) ≡ false) (l.at + 1) l.part l.j l.from
