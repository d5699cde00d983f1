-- `rule_factor::sharing_groups` meets its contract. Invariant: the trees passed share, so all do where those left do, and their groups are counted.
use Prim.Native.Nat.{◌+◌, ◌-◌, ◌≤◌}
use mathlib.Core.Path.{◌≡◌}
use lib.ListN.{length, drop}
use Rattle.rule_factor.specs.Walks.{all_share, groups_in}
use Rattle.rule_factor.proofs.sharing_groups.Given as goal

abbrev pub invariant-loop-passed : goal.invariant-loop-passed
invariant-loop-passed l =
    (l.at ≤ length l.part) × (l.groups ≤ l.passed)
    × (all_share l.literal l.trees l.part ≡ all_share l.literal (l.trees - l.passed) (drop l.at l.part))
    × (groups_in l.trees l.part ≡ l.groups + groups_in (l.trees - l.passed) (drop l.at l.part))
