-- `rule_regroup::copy_trees` meets its contract. Invariant: what is kept of the trees passed is written.
use Prim.Native.Nat.{◌-◌}
use Rattle.rule_regroup.proofs.Gather.{Gathering}
use Rattle.rule_regroup.proofs.copy_trees.Given as goal

abbrev pub invariant-loop-passed : goal.invariant-loop-passed
invariant-loop-passed l =
    Gathering l.groups l.literal l.trees l.part l.initial.out l.at l.out l.to l.from (l.trees - l.passed)
