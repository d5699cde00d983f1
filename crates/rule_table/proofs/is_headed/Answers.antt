-- `rule_table::is_headed` meets its contract: the two columns of the table, against the kind and the children of the first number.
use mathlib.Core.Path.{sym, ap, ◌∙◌}
use borrow.Author.Tests.{eq-eqb, ne_eqb}
use Rattle.model.specs.Code.{kind, children}
use Rattle.rule_table.specs.Headings.{headed}
use Rattle.rule_table.proofs.is_headed.Goals as goal

pub returns-then-kind_of-kind_for : goal.returns-then-kind_of-kind_for
unfolding headed
returns-then-kind_of-kind_for c =
    let w = c.from-head.ensures in
    let k = c.kind_of.ensures ∙ ap kind w in
    let v = c.children_of.ensures ∙ ap children w in
    rw (sym k, sym c.kind_for.ensures, sym v, sym c.fewest_for.ensures, eq-eqb c.kind_of.result c.kind_for.result c.if-kind_of-kind_for.true)

pub returns-else-kind_of-kind_for : goal.returns-else-kind_of-kind_for
unfolding headed
returns-else-kind_of-kind_for c =
    let k = c.kind_of.ensures ∙ ap kind c.from-head.ensures in
    rw (sym k, sym c.kind_for.ensures, ne_eqb c.kind_of.result c.kind_for.result c.if-kind_of-kind_for.false)
