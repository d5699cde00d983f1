-- `search_place::first_constant` meets its contract. Invariant: child i begins at the present place, and none before it is sought.
use mathlib.Core.Bool.{false}
use mathlib.Core.Path.{◌≡◌}
use Rattle.model.specs.Base.{is_some}
use Rattle.model.specs.Rules.{rewrite}
use Rattle.theory_reading.specs.Stretches.{forest_in}
use Rattle.search_sizes.specs.TreeHops.{Passed}
use Rattle.search_place.proofs.first_constant.Given as goal

abbrev pub invariant-loop-i : goal.invariant-loop-i
invariant-loop-i l = Passed (λ q. is_some (rewrite l.rule q 0 (forest_in l.part)) ≡ false) 1 l.part l.i l.at
