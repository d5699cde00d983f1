-- `search_place::least_child` meets its contract: the head is right for the rule, or the rule does not apply.
use mathlib.Core.Logic.{inl, inr}
use mathlib.Core.Path.{sym, ◌∙◌}
use native.Mathlib.Omega.{arith}
use Rattle.theory_reading.specs.Stretches.{forest_in}
use Rattle.theory_rewriting.specs.Heads.{Headed}
use Rattle.rule_table.proofs.HeadTests.{head_right, head_wrong}
use Rattle.search_place.proofs.SearchLevels.{i_never}
use Rattle.search_place.proofs.InnerSearch.{Beside}
use Rattle.search_place.proofs.FirstChildren.{first_found, first_none}
use Rattle.search_place.proofs.least_child.Goals as goal
use Rattle.search_place.proofs.least_child.Goals.{Else-not-is_headed, In_default}
use Rattle.search_place.proofs.least_child.Goals.{in_default-via-then-rule-lt11, in_default-via-else-rule-lt11+else-rule-lt15+then-rule-lt16}
use Rattle.search_place.proofs.least_child.Goals.{in_default-via-else-rule-lt11+else-rule-lt15+else-rule-lt16+else-rule-lt18}

-- Past the test the head is right for the rule.
right : (c : goal.Else-not-is_headed) → let a = c.args in Headed a.rule a.part.now
right c =
    head_right c.args.rule c.requires.stretch (sym c.is_headed.ensures ∙ c.if-not-is_headed.false)

-- Past the two ranges the rule looks at the children and into none of them.
beside : (c : goal.In_default) → Beside c.args.rule
beside c = elim c.in_default.branch [
  | in_default-via-then-rule-lt11 w ↦ inl (omega arith)
  | in_default-via-else-rule-lt11+else-rule-lt15+then-rule-lt16 w ↦ inr (omega arith)
  | in_default-via-else-rule-lt11+else-rule-lt15+else-rule-lt16+else-rule-lt18 w ↦ absurd (omega arith)
]

pub returns-then-not-is_headed : goal.returns-then-not-is_headed
returns-then-not-is_headed c =
    λ p. i_never c.args.rule p (forest_in c.args.part.now)
    (head_wrong c.args.rule c.requires.stretch (sym c.is_headed.ensures ∙ c.if-not-is_headed.true))

pub least_inside-requires : goal.least_inside-requires
least_inside-requires c =
    let p = c.requires in
    record {
      le_rule = (omega arith, omega arith);
      stretch = p.stretch;
      headed = right (goal.at.least_inside-requires c).Else-not-is_headed;
      sizes_of = p.sizes_of;
    }

pub least_ended-requires : goal.least_ended-requires
least_ended-requires c =
    record { le_rule = (omega arith, omega arith); stretch = c.requires.stretch; headed = right (goal.at.least_ended-requires c).Else-not-is_headed }

pub first_beside-requires : goal.first_beside-requires
first_beside-requires c =
    let p = c.requires in
    record {
      le_rule = (p.le_rule.0, beside (goal.at.first_beside-requires c).In_default);
      stretch = p.stretch;
      headed = right (goal.at.first_beside-requires c).Else-not-is_headed;
      sizes_of = p.sizes_of;
    }

pub returns-in_ok-i-in_default : goal.returns-in_ok-i-in_default
returns-in_ok-i-in_default c =
    first_found c.requires.stretch (right (goal.at.returns-in_ok-i-in_default c).Else-not-is_headed)
    (beside (goal.at.returns-in_ok-i-in_default c).In_default) c.in_ok-i-in_default.ensures

pub returns-in_err-i-in_default : goal.returns-in_err-i-in_default
returns-in_err-i-in_default c =
    rw c.from_residual.ensures
    (first_none c.requires.stretch (right (goal.at.returns-in_err-i-in_default c).Else-not-is_headed)
    (beside (goal.at.returns-in_err-i-in_default c).In_default) c.in_err-i-in_default.ensures)
