-- `rule_lift::are_others_literals` meets its contract: the two parts are read one after the other.
use mathlib.Core.Path.{sym, ◌∙◌}
use Rattle.rule_lift.specs.Asked.{others_literal}
use Rattle.rule_lift.proofs.are_others_literals.Goals as goal

pub returns-then-are_literals : goal.returns-then-are_literals
unfolding others_literal
returns-then-are_literals c =
    let call = c.are_literals in
    rw (sym call.ensures ∙ c.if-are_literals.true)
    (rw c.child_at-next.ensures.0 at c.are_literals-then-are_literals.ensures)

pub returns-else-are_literals : goal.returns-else-are_literals
unfolding others_literal
returns-else-are_literals c =
    let call = c.are_literals in
    rw (sym call.ensures ∙ c.if-are_literals.false) c.if-are_literals.false
