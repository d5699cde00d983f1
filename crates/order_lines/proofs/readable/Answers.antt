-- `order_lines::readable` meets its contract: each way out is one outcome of the test.
use mathlib.Core.Path.{refl}
use borrow.Author.Tests.{eq-eqb, ne_eqb, lt-leb, le-leb}
use Rattle.model.specs.Base.{pick}
use Rattle.order_lines.specs.LentLines.{readable}
use Rattle.order_lines.proofs.readable.Goals as goal
use Rattle.order_lines.proofs.readable.Goals.{else-slots-eq-SLOTS-via-then-slots-eq-SLOTS+else-count-le-MOST_LINES, else-slots-eq-SLOTS-via-else-slots-eq-SLOTS}

pub returns-then-count-le-MOST_LINES : goal.returns-then-count-le-MOST_LINES
unfolding readable pick
returns-then-count-le-MOST_LINES c = rw (eq-eqb _ 64 c.if-slots-eq-SLOTS.true, le-leb _ _ c.if-count-le-MOST_LINES.true) c.from.ensures

pub returns-else-slots-eq-SLOTS : goal.returns-else-slots-eq-SLOTS
unfolding readable pick
returns-else-slots-eq-SLOTS c =
    elim c.else-slots-eq-SLOTS.branch [
      | else-slots-eq-SLOTS-via-then-slots-eq-SLOTS+else-count-le-MOST_LINES w ↦
          rw (eq-eqb _ 64 w.if-slots-eq-SLOTS.true, lt-leb _ _ w.if-count-le-MOST_LINES.false) refl
      | else-slots-eq-SLOTS-via-else-slots-eq-SLOTS w ↦ rw (ne_eqb _ 64 w.if-slots-eq-SLOTS.false) refl
    ]
