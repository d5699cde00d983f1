-- `order_lines::judged` meets its contract: the slots are as many as they should be, or not.
use mathlib.Core.Path.{refl}
use borrow.Author.Tests.{eq-eqb, ne_eqb}
use Rattle.model.specs.Base.{pick}
use Rattle.order_lines.specs.LentLines.{judged}
use Rattle.order_lines.proofs.judged.Goals as goal

pub returns-then-slots-eq-SLOTS : goal.returns-then-slots-eq-SLOTS
unfolding judged pick
returns-then-slots-eq-SLOTS c = rw (eq-eqb _ 64 c.if-slots-eq-SLOTS.true) refl

pub returns-else-slots-eq-SLOTS : goal.returns-else-slots-eq-SLOTS
unfolding judged pick
returns-else-slots-eq-SLOTS c = rw (ne_eqb _ 64 c.if-slots-eq-SLOTS.false) refl
