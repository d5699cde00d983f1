-- `rule_spread::occurs_around` meets its contract.
use Rattle.rule_spread.specs.Assigning.{spreads_from}
use Rattle.rule_spread.proofs.occurs_around.Goals as goal

pub returns-else-is_literal : goal.returns-else-is_literal
unfolding spreads_from
returns-else-is_literal c =
    rw (← c.from-x.ensures, ← c.is_literal.ensures, c.if-is_literal.false)

pub returns-then-occurs : goal.returns-then-occurs
unfolding spreads_from
returns-then-occurs c =
    rw (← c.from-x.ensures, ← c.is_literal.ensures, c.if-is_literal.true, ← c.value_of-option.ensures, ← c.occurs.ensures, c.if-occurs.true)

pub returns-else-occurs : goal.returns-else-occurs
unfolding spreads_from
returns-else-occurs c =
    rw (← c.from-x.ensures, ← c.is_literal.ensures, c.if-is_literal.true, ← c.value_of-option.ensures, ← c.occurs.ensures, c.if-occurs.false)
    c.occurs-else-occurs.ensures
