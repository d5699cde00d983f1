-- `rule_factor::unit_place` meets its contract. Invariant: no tree passed is the literal, so the place is that among the trees left, from the
-- present place on; and so is their end.
use Prim.Native.Nat.{◌+◌, ◌-◌, ◌≤◌}
use mathlib.Core.Path.{◌≡◌}
use lib.ListN.{length, drop}
use Rattle.theory_reading.specs.Spans.{span}
use Rattle.rule_factor.specs.Walks.{unit_place}
use Rattle.rule_factor.proofs.unit_place.Given as goal

abbrev pub invariant-loop-passed : goal.invariant-loop-passed
invariant-loop-passed l =
    (l.at ≤ length l.part) × (unit_place l.literal l.trees l.part ≡ l.at + unit_place l.literal (l.trees - l.passed) (drop l.at l.part))
    × (span l.trees l.part ≡ l.at + span (l.trees - l.passed) (drop l.at l.part))
