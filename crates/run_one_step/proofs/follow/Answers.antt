-- `run_one_step::follow` meets its contract: the table is renewed with the zone, or without one and then set back.
use mathlib.Core.Path.{◌≡◌, ◌∙◌}
use Prim.Native.Nat.{◌≤◌, ◌<◌}
use native.Mathlib.Omega.{arith}
use Rattle.model.specs.Sheet.{used_in, nodes_in}
use Rattle.run_one_step.proofs.FollowedBounds.{followed_spread}
use Rattle.run_one_step.proofs.follow.Goals as goal
use Rattle.run_one_step.proofs.follow.Goals.{In-9-to-10}

-- The rule is 9 or 10, so the zone is the tree at the place, among the nodes.
spreads : (c : goal.In-9-to-10) → let a = c.args in (9 ≤ a.rule) × (a.rule ≤ 10)
spreads c = (omega arith, omega arith)

tree :
    (c : goal.In-9-to-10) →
    let a = c.args in
    let p = a.plan in
    (p.zone.from ≡ p.place) × (p.place < p.zone.new) × (p.zone.new ≤ used_in a.sheet.now)
tree c = c.requires.from_value (spreads c).0 (spreads c).1

pub set_back-requires : goal.set_back-requires
set_back-requires c =
    let p = c.requires in
    record {
      measured = p.measured;
      low_len = c.renew.auto.low ∙ p.low_len;
      from_le_to = (omega (arith, (tree (goal.at.set_back-requires c).In-9-to-10).1), (tree (goal.at.set_back-requires c).In-9-to-10).2);
    }

pub returns-in-9-to-10 : goal.returns-in-9-to-10
returns-in-9-to-10 c =
    let a = c.args in
    followed_spread a.rule (spreads (goal.at.returns-in-9-to-10 c).In-9-to-10).0 (spreads (goal.at.returns-in-9-to-10 c).In-9-to-10).1
    (nodes_in a.sheet.now) a.plan c.requires.planned a.low.now c.renew.new.low c.set_back.new.low c.renew.ensures c.set_back.ensures
    (tree (goal.at.returns-in-9-to-10 c).In-9-to-10).0 (tree (goal.at.returns-in-9-to-10 c).In-9-to-10).1
