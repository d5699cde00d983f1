-- `c_line_calls::nd_complete` meets its contract: the question is answered alike on a copy of the lines.
use mathlib.Core.Path.{ap, ◌∙◌}
use Rattle.c_calls.specs.Packed.{packed_bool}
use Rattle.c_line_calls.proofs.CopiedLines.{complete_alike}
use Rattle.c_line_calls.proofs.nd_complete.Goals as goal

pub returns : goal.returns
returns c =
    let a = c.args in
    (rw (c.copied-all.ensures, c.judged.ensures) at c.complete_copied.ensures)
    ∙ ap packed_bool (complete_alike a.sheet.now a.lines.now a.count a.book.now)
