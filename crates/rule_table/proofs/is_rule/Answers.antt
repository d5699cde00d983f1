-- `rule_table::is_rule` meets its contract: no row outside the table, and within it the column of the fewest children tells.
use mathlib.Core.Logic.{⊎_elim}
use mathlib.Core.Path.{ap, ◌∙◌}
use native.Mathlib.Omega.{arith}
use borrow.Author.Tests.{lt-leb}
use lib.Dec.{ltb}
use Rattle.model.specs.Limits.{last_rule, kind_factor}
use Rattle.rule_table.proofs.Rows.{outside_rules, by_fewest}
use Rattle.rule_table.proofs.is_rule.Goals as goal
use Rattle.rule_table.proofs.is_rule.Goals.{then-rule-ge1, else-rule-ge1}

pub returns-then-rule : goal.returns-then-rule
returns-then-rule c = ap (λ n. ltb n kind_factor) c.fewest_for.ensures ∙ by_fewest c.args.rule

pub returns-else-rule : goal.returns-else-rule
returns-else-rule c =
    let outside = outside_rules c.args.rule (λ e. ⊎_elim (λ h. omega arith) (λ h. omega arith) c.if-rule.either) in
    elim c.if-rule-ge1.branch [
      | then-rule-ge1 w ↦ w.t-3-is ∙ lt-leb c.args.rule last_rule (⊎_elim (λ h. h.1) (λ h. omega arith) c.if-rule.either) ∙ outside
      | else-rule-ge1 w ↦ w.t-3-is ∙ lt-leb 1 c.args.rule w.if-rule-ge1.false ∙ outside
    ]
