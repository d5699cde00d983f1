-- `rule_table::fewest_for` meets its contract: the array is the table's column.
use mathlib.Core.Path.{refl, ◌∙◌}
use Rattle.model.specs.Rules.{table}
use Rattle.rule_table.specs.Columns.{fewest_for}
use Rattle.rule_table.proofs.Rows.{column}
use Rattle.rule_table.proofs.fewest_for.Goals as goal

pub returns : goal.returns
unfolding fewest_for table
returns c = let b = c in c.from.ensures ∙ column (λ w. w.fewest) _ _ refl b.args.rule b.requires.0 b.requires.1
