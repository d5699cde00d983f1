-- `rule_spread::is_of` meets its contract.
use Rattle.rule_spread.specs.Assigning.{names}
use Rattle.rule_spread.proofs.is_of.Goals as goal

pub returns-then-is_literal : goal.returns-then-is_literal
unfolding names
returns-then-is_literal c =
    rw (← c.from-n.ensures, ← c.is_literal.ensures, c.if-is_literal.true, c.value_of.ensures)

pub returns-else-is_literal : goal.returns-else-is_literal
unfolding names
returns-else-is_literal c = rw (← c.from-n.ensures, ← c.is_literal.ensures, c.if-is_literal.false)
