-- `run_bounds_after::has_constant` meets its contract. Invariant: child i begins at the present place, and none before it is a constant.
use Prim.Native.Nat.{◌+◌}
use lib.ListN.{drop}
use Rattle.search_sizes.specs.TreeHops.{Passed}
use Rattle.run_bounds_after.proofs.ConstantChildren.{PlainChild}
use Rattle.run_bounds_after.proofs.has_constant.Given as goal

abbrev pub invariant-loop : goal.invariant-loop
invariant-loop l = Passed (PlainChild l.sheet l.place) (l.place + 1) (drop 2 l.sheet) l.counter l.at
