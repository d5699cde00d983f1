-- `order_named::place_named` meets its contract: the option of a mark, or the place past all options.
use mathlib.Core.Path.{sym, ◌∙◌}
use Rattle.model.specs.Base.{pick}
use Rattle.order_named.specs.Noting.{place_named}
use Rattle.order_named.proofs.place_named.Goals as goal

pub returns-then-is_literal : goal.returns-then-is_literal
unfolding place_named pick
returns-then-is_literal c = rw (sym c.is_literal.ensures ∙ c.if-is_literal.true) c.value_of.ensures

pub returns-else-is_literal : goal.returns-else-is_literal
unfolding place_named pick
returns-else-is_literal c = rw (sym c.is_literal.ensures ∙ c.if-is_literal.false)
