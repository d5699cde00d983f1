-- `common_members::count_trees` meets its contract. Invariant: the trees are counted from the present place on, all members there in their
-- seats.
use mathlib.Core.Option.{some}
use mathlib.Core.Path.{◌≡◌}
use lib.ListN.{drop}
use Rattle.common_members.specs.Tested.{tested}
use Rattle.common_members.proofs.count_trees.Given as goal

abbrev pub invariant-loop-i : goal.invariant-loop-i
invariant-loop-i g l = tested l.n (drop l.i (g.N.Numbers.numbers l.numbers)) ≡ some l.trees
