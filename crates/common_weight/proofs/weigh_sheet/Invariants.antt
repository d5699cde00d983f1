-- `common_weight::weigh_sheet` meets its contract. Invariant: what is summed and what is to come, and that the sum is at most 8,192.
use Prim.Native.Nat.{◌≤◌}
use Rattle.model.specs.Code.{weight}
use Rattle.model.specs.Sheet.{used_in, numbers_in, nodes_in}
use Rattle.common_weight.specs.Sums.{most_sum}
use Rattle.common_weight.proofs.Weighing.{Weighed}
use Rattle.common_weight.proofs.weigh_sheet.Given as goal

abbrev pub invariant-loop-x : goal.invariant-loop-x
invariant-loop-x l = Weighed (used_in l.s) (numbers_in l.s) (weight (nodes_in l.s)) l.x-index l.sum × (l.sum ≤ most_sum)
