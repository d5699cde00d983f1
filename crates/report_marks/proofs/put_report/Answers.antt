-- `report_marks::put_report` meets its contract: the table has the report once all is known.
use mathlib.Core.Path.{sym, ◌∙◌}
use Rattle.theory_meaning.specs.FailedLiterals.{report_marks}
use Rattle.report_marks.proofs.put_report.Goals as goal

pub returns : goal.returns
returns c =
    let told = c.propagate-contradictory.ensures in
    let room = c.requires.1 in
    (told.value, c.put_marks.ensures ∙ rw (told.value, room) (sym (report_marks _ _ told.has_report)))
