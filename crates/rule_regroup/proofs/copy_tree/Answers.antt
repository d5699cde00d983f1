-- `rule_regroup::copy_tree` meets its contract, by the test for a literal and what is asked for.
use mathlib.Core.List.{[], ◌∷◌}
use mathlib.Core.Path.{◌≡◌, sym, ap, ◌∙◌}
use native.Mathlib.Omega.{arith}
use lib.ListN.{length, get_or}
use Rattle.model.specs.Base.{pick}
use Rattle.theory_forms.specs.Scan.{is_literal}
use Rattle.rule_factor.proofs.Here.{shares_group}
use Rattle.rule_regroup.specs.Regrouped.{kept, less_unit}
use Rattle.rule_regroup.proofs.Append.{appended_none, appended_one, appended_as}
use Rattle.rule_regroup.proofs.KeptTrees.{kept_is}
use Rattle.rule_regroup.proofs.copy_tree.Goals as goal
use Rattle.rule_regroup.proofs.copy_tree.Goals.{After-is_literal, Else-groups, Then-groups-2}

-- What is read of the first number.
literal : (c : goal.After-is_literal) →
    c.is_literal.result ≡ is_literal (get_or c.args.part.now 0 0)
literal c = c.is_literal.ensures ∙ ap is_literal c.from.ensures

-- What is kept, in the two cases where there is something.
unit : (c : goal.Else-groups) → let a = c.args in
    kept a.groups a.literal a.part.now ≡ get_or a.part.now 0 0 ∷ []
unfolding pick
unit c =
    let a = c.args in
    kept_is a.groups a.literal a.part.now (sym (c.is_literal.ensures ∙ ap is_literal c.from.ensures) ∙ c.if-is_literal.true) c.if-groups.false

group : (c : goal.Then-groups-2) → let a = c.args in
    kept a.groups a.literal a.part.now ≡ less_unit a.literal a.part.now
unfolding pick
group c =
    let a = c.args in
    kept_is a.groups a.literal a.part.now (sym (c.is_literal.ensures ∙ ap is_literal c.from.ensures) ∙ c.if-is_literal.false) c.if-groups-2.true

pub returns-then-groups : goal.returns-then-groups
unfolding pick
returns-then-groups c =
    let a = c.args in
    appended_as (sym (kept_is a.groups a.literal a.part.now
    (sym (literal (goal.at.returns-then-groups c).After-is_literal) ∙ c.if-is_literal.true) c.if-groups.true)) (appended_none _ _)

pub bounds-out-at : goal.bounds-out-at
bounds-out-at c = omega (arith, ap length (unit (goal.at.bounds-out-at c).Else-groups), c.requires.part_in_bounds)

pub returns-else-groups : goal.returns-else-groups
returns-else-groups c =
    let a = c.args in
    appended_as (sym (unit (goal.at.returns-else-groups c).Else-groups))
    (appended_one _ a.at a.out.now (omega (arith, ap length (unit (goal.at.returns-else-groups c).Else-groups), c.requires.part_in_bounds)))

pub copy_group-requires : goal.copy_group-requires
copy_group-requires c =
    let w = shares_group c.args.literal c.args.part.now c.requires.part_value
    (sym (literal (goal.at.copy_group-requires c).After-is_literal) ∙ c.if-is_literal.false) in
    record {
      in_bounds = c.requires.in_bounds;
      part_value = w.0;
      part_value_2 = w.1;
      part_in_bounds = rw (group (goal.at.copy_group-requires c).Then-groups-2) at c.requires.part_in_bounds;
    }

pub returns-then-groups-2 : goal.returns-then-groups-2
returns-then-groups-2 c = appended_as (sym (group (goal.at.returns-then-groups-2 c).Then-groups-2)) c.copy_group.ensures

pub returns-else-groups-2 : goal.returns-else-groups-2
unfolding pick
returns-else-groups-2 c =
    let a = c.args in
    appended_as (sym (kept_is a.groups a.literal a.part.now
    (sym (literal (goal.at.returns-else-groups-2 c).After-is_literal) ∙ c.if-is_literal.false) c.if-groups-2.false)) (appended_none _ _)
