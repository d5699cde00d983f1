-- `report_propagation::is_due` meets its contract, test by test.
use mathlib.Core.Path.{refl, sym, ◌∙◌}
use borrow.Author.Tests.{lt-ltb, le-ltb}
use Rattle.theory_forms.specs.Logic.{true_false}
use Rattle.report_propagation.specs.Trails.{due}
use Rattle.report_propagation.proofs.is_due.Goals as goal
use Rattle.report_propagation.proofs.is_due.Goals.{then-part, else-part}

pub returns-then-part-turn : goal.returns-then-part-turn
unfolding due
returns-then-part-turn c =
    let part = c.args.part in
    elim c.if-part.branch [
      | then-part w ↦ rw (lt-ltb part.from part.to w.if-part.true, ← w.value-is, c.if-part-turn.true) refl
      | else-part w ↦ true_false (sym c.if-part-turn.true ∙ w.value-is ∙ le-ltb part.from part.to w.if-part.false)
    ]

pub returns-else-part-turn : goal.returns-else-part-turn
unfolding due
returns-else-part-turn c =
    let part = c.args.part in
    elim c.if-part.branch [
      | then-part w ↦ rw (lt-ltb part.from part.to w.if-part.true, ← w.value-is, c.if-part-turn.false) refl
      | else-part w ↦ rw (le-ltb part.from part.to w.if-part.false, c.if-part-turn.false) refl
    ]
