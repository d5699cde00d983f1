-- `step::applies` meets its contract: the head is tested, child i is looked for among its children, and the rule's family is asked.
use mathlib.Core.Path.{◌≡◌, sym, ap, ◌∙◌}
use native.Mathlib.Omega.{arith}
use lib.ListN.{get_or}
use Rattle.model.specs.Code.{children}
use Rattle.theory_rewriting.specs.Children.{headed_group, group_children, group_few}
use Rattle.theory_rewriting.specs.Heads.{Headed}
use Rattle.rule_table.proofs.HeadTests.{head_right, head_wrong, past_children}
use Rattle.step.proofs.applies.Goals as goal
use Rattle.step.proofs.applies.Goals.{After-children_of-k, Else-not-is_headed}

-- Past the first test the head is right for the rule.
right : (c : goal.Else-not-is_headed) → Headed c.args.rule c.args.part.now
right c = head_right c.args.rule c.requires.stretch (sym c.is_headed.ensures ∙ c.if-not-is_headed.false)

counted :
    (c : goal.After-children_of-k) →
    c.children_of-k.result ≡ children (get_or c.args.part.now 0 0)
counted c = c.children_of-k.ensures ∙ ap children c.from.ensures

pub returns-then-not-is_headed : goal.returns-then-not-is_headed
returns-then-not-is_headed c =
    head_wrong c.args.rule c.requires.stretch (sym c.is_headed.ensures ∙ c.if-not-is_headed.true) c.args.i c.args.j

pub ends-requires : goal.ends-requires
ends-requires c =
    record {
      le_rule = (omega arith, c.requires.le_rule.1);
      stretch = c.requires.stretch;
      headed = right (goal.at.ends-requires c).Else-not-is_headed;
    }

pub returns-then-k-i : goal.returns-then-k-i
returns-then-k-i c =
    past_children c.args.rule c.args.i c.args.j c.requires.stretch (right (goal.at.returns-then-k-i c).Else-not-is_headed)
    (omega arith) (omega (arith, counted (goal.at.returns-then-k-i c).After-children_of-k))

pub child_at-at-requires : goal.child_at-at-requires
child_at-at-requires c =
    let g = headed_group c.requires.stretch (right (goal.at.child_at-at-requires c).Else-not-is_headed) in (
      omega arith,
      c.requires.stretch.short,
      omega (arith, counted (goal.at.child_at-at-requires c).After-children_of-k, group_children g, group_few g),
    )

pub applies_headed-requires : goal.applies_headed-requires
applies_headed-requires c =
    record {
      le_rule = (c.requires.le_rule.0, omega arith);
      stretch = c.requires.stretch;
      headed = right (goal.at.applies_headed-requires c).Else-not-is_headed;
      i_bound = (omega (arith, counted (goal.at.applies_headed-requires c).After-children_of-k), c.child_at-at.ensures.0);
    }
