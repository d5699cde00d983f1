use mathlib.Core.Path.{ap, refl, ◌∙◌}
use native.Mathlib.Omega.{arith}
use lib.ListN.{get_or}
use Rattle.model.specs.Results.{appended}
use Rattle.calls.specs.Lines.{with_marks}
use Rattle.order_lines.specs.LineMeaning.{blank, line_of}
use Rattle.theory_forms.specs.Sheets.{sheet_formed}
use Rattle.order_marks.proofs.MarksSoFar.{marked, next_known, next_marked}
use Rattle.order_marks.proofs.put_marks.Goals as goal

pub loop-line-init : goal.loop-line-init
unfolding with_marks
loop-line-init c = refl

pub append-requires : goal.append-requires
append-requires c =
    let r = c.requires in
    let loop = c.loop-line in
    let here = marked _ c.args.lines.now r.sheet_value r.lines_value r.room loop.line-index (omega arith) in
    let known = next_known _ c.args.lines.now r.sheet_value r.lines_value r.room loop.line-index (omega arith) in
    rw loop.invariant
    (record {
      formed = sheet_formed _ here.sheet;
      option_bound = (rw here.options known, omega (arith, here.weight, r.room));
    })

pub loop-line-preserved : goal.loop-line-preserved
loop-line-preserved c =
    let r = c.requires in
    let loop = c.loop-line in
    let l = line_of (get_or c.args.lines.now loop.line-index blank) in
    c.append.ensures
    ∙ ap (λ s. appended s l) loop.invariant
    ∙ next_marked _ c.args.lines.now r.sheet_value r.lines_value r.room loop.line-index (omega arith)
